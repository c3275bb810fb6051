use Rattle.std.proofs.Common.{◌≡◌, ◌+◌, ◌%◌, cond, Some, ap, ◌∙◌, arith, rules, unwrap_or}
use Rattle.std.specs.Map.{lookup}
use Rattle.n2k_join.specs.Pieces.{same_stream}
use Rattle.n2k_join.specs.Splitter.{sequences}
use Rattle.n2k_join.proofs.Numbered.{raised_below, raised_by_map}
use Rattle.n2k_join.proofs.splitter.Splitter.take_sequence.Goals as goal

pub overflow_add-next : goal.overflow_add-next
unfolding same_stream
overflow_add-next c =
    let is : c.in-Some.next.now ≡ sequences c.self.inside.next.entries c.args.stream = ap (λ o. unwrap_or o 0) c.in-Some.ensures.value in
    omega (arith, is, c.self.invariant c.args.stream)

pub invariant_of-self : goal.invariant_of-self
unfolding same_stream
invariant_of-self c s =
    let held = c.self.inside.next.entries in
    let is : c.in-Some.next.now ≡ sequences held c.args.stream = ap (λ o. unwrap_or o 0) c.in-Some.ensures.value in
    let updates = (c.get_mut.follows.holds ((c.in-Some.next.now + 1) % 8)).3 (search rules) in
    raised_below held c.args.stream s _ c.self.invariant (raised_by_map held c.args.stream s c.in-Some.next.now _ is (updates.0 s))

pub invariant_of-self-in-None : goal.invariant_of-self-in-None
unfolding same_stream
invariant_of-self-in-None c s =
    let held = c.self.inside.next.entries in
    let is : 0 ≡ sequences held c.args.stream = ap (λ o. unwrap_or o 0) c.in-None.ensures.value in
    raised_below held c.args.stream s _ c.self.invariant (raised_by_map held c.args.stream s 0 _ is (c.in_ok-insert-in-None.ensures.updates.0 s ∙ ap (λ next. cond (same_stream c.args.stream s) (Some 1) (lookup (same_stream s) next.entries)) c.get_mut.follows.holds-at-none))

pub returns-in-Some-clause-sequence : goal.returns-in-Some-clause-sequence
unfolding same_stream
returns-in-Some-clause-sequence c = ap (λ o. unwrap_or o 0) c.in-Some.ensures.value ∙ ap (λ held. sequences held c.args.stream) c.self.view_is

pub returns-in-Some-clause-small : goal.returns-in-Some-clause-small
unfolding same_stream
returns-in-Some-clause-small c =
    let is : c.in-Some.next.now ≡ sequences c.self.inside.next.entries c.args.stream = ap (λ o. unwrap_or o 0) c.in-Some.ensures.value in
    omega (arith, is, c.self.invariant c.args.stream)

pub returns-in-Some-clause-raised : goal.returns-in-Some-clause-raised
unfolding same_stream
returns-in-Some-clause-raised c s = grind (arith, raised_by_map)

pub returns-in_ok-insert-in-None-clause-sequence : goal.returns-in_ok-insert-in-None-clause-sequence
unfolding same_stream
returns-in_ok-insert-in-None-clause-sequence c = ap (λ o. unwrap_or o 0) c.in-None.ensures.value ∙ ap (λ held. sequences held c.args.stream) c.self.view_is

pub returns-in_ok-insert-in-None-clause-raised : goal.returns-in_ok-insert-in-None-clause-raised
unfolding same_stream
returns-in_ok-insert-in-None-clause-raised c s =
    let held = c.self.inside.next.entries in
    let is : 0 ≡ sequences held c.args.stream = ap (λ o. unwrap_or o 0) c.in-None.ensures.value in
    raised_by_map held c.args.stream s 0 _ is (c.in_ok-insert-in-None.ensures.updates.0 s ∙ ap (λ next. cond (same_stream c.args.stream s) (Some 1) (lookup (same_stream s) next.entries)) c.get_mut.follows.holds-at-none) ∙ ap (λ held. cond (same_stream c.args.stream s) ((sequences held s + 1) % 8) (sequences held s)) c.self.view_is
