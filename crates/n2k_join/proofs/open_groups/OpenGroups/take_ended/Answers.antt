use Rattle.std.proofs.Common.{arith, ◌+◌, List, [], ◌∙◌, ap, sym, drop, nat_lt, slice_get, option_map, Some}
use Rattle.std.proofs.lemmas.Option.{slice_get_within}
use Rattle.n2k_join.specs.declared.piece.FrameKey.{FrameKey}
use Rattle.n2k_join.specs.declared.open_groups.Linked.{Linked}
use Rattle.n2k_join.specs.Messages.{as_broken}
use Rattle.n2k_join.specs.Open.{Group, ended}
use Rattle.n2k_join.specs.Inner.Slots.{group_at}
use Rattle.n2k_join.specs.Inner.Order.{item, listed}
use Rattle.n2k_join.proofs.Listed.{first-place, first-group, none-listed, none-ended, first-ended}
use Rattle.n2k_join.proofs.open_groups.OpenGroups.take_ended.Goals as goal

pub returns-in_err-key-clause-broken : goal.returns-in_err-key-clause-broken
unfolding ended
returns-in_err-key-clause-broken c = grind (arith, none-listed)

pub returns-then-is_waiting-clause-broken : goal.returns-then-is_waiting-clause-broken
returns-then-is_waiting-clause-broken c =
    let g = c.args.self.now in
    let e : FrameKey × Linked = (c.in_ok-key.key.now, c.in_ok-key.linked.now) in
    let waits = ap (λ n. nat_lt c.args.line (e.1.group.first + n)) (sym (c.from.ensures ∙ c.get.ensures.value)) ∙ sym c.is_waiting.ensures ∙ c.if-is_waiting.true in
    sym (ap (λ (gs : List Group). option_map as_broken (slice_get gs 0)) (none-ended c.args.window c.args.line c.args.line (listed g) _ (group_at (item e)) c.requires.kept.rise (first-group g e (sym c.in_ok-key.ensures.entry)) waits))

pub remove_at-requires : goal.remove_at-requires
remove_at-requires c = record { kept = (c.args.line, c.requires.kept); within = slice_get_within c.args.self.now.groups.entries c.args.self.now.first (c.in_ok-key.key.now, c.in_ok-key.linked.now) (sym c.in_ok-key.ensures.entry) }

pub returns-clause-broken : goal.returns-clause-broken
returns-clause-broken c =
    let g = c.args.self.now in
    let e : FrameKey × Linked = (c.in_ok-key.key.now, c.in_ok-key.linked.now) in
    let late = ap (λ n. nat_lt c.args.line (e.1.group.first + n)) (sym (c.from.ensures ∙ c.get.ensures.value)) ∙ sym c.is_waiting.ensures ∙ c.if-is_waiting.false in
    ap Some c.broken-broken.ensures ∙ first-ended c.args.window c.args.line (listed g) _ (group_at (item e)) (first-group g e (sym c.in_ok-key.ensures.entry)) late

pub returns-clause-taken : goal.returns-clause-taken
returns-clause-taken c = λ _.
    let g = c.args.self.now in
    let e : FrameKey × Linked = (c.in_ok-key.key.now, c.in_ok-key.linked.now) in
    let is = sym c.in_ok-key.ensures.entry in
    c.remove_at.ensures.gone [] (first-place g e is).0 (first-place g e is).1 ∙ sym (ap (drop 1) (first-group g e is))

pub returns-clause-kept : goal.returns-clause-kept
returns-clause-kept c = c.remove_at.ensures.kept c.args.line c.requires.kept
