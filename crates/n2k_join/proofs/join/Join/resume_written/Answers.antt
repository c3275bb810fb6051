use Rattle.std.proofs.Common.{arith, ◌≡◌, ◌∙◌, ap, sym, subst, true, Bool, Ok, rules}
use Rattle.n2k_table.specs.Table.{kind}
use Rattle.n2k_join.specs.Resumed.{is_valid, valid_if, resumed, state_of_parts}
use Rattle.n2k_join.specs.Saved.{IsId, state_text}
use Rattle.n2k_join.specs.State.{State}
use Rattle.n2k_join.proofs.ReadStates.{valid-fast}
use Rattle.n2k_join.proofs.join.Join.resume_written.Goals as goal

-- a valid state is returned
given-parts : (b : Bool) (t s : State) → valid_if b t ≡ Ok s → (b ≡ true) × (t ≡ s)
given-parts b t s e = grind arith

pub returns-then-eq : goal.returns-then-eq
returns-then-eq c =
    let s : State = c.in-Ok.join in
    let k = kind c.args.table.now in
    let t : State = state_of_parts c.args.id c.args.window c.in-Some.counts c.deref.result.now in
    let given = given-parts (is_valid k t) t s c.in-Ok.ensures in
    let same : t ≡ s = given.1 in
    let bytes : c.in_ok-text.text.items ≡ c.args.bytes.now = search rules in
    let text : c.in_ok-text.text.items ≡ state_text s = c.in_ok-text.ensures.text in
    let id : IsId s.id = search rules in
    let fast = valid-fast k s (subst (λ (u : State). is_valid k u ≡ true) same given.0) in
    (λ i. resumed k ((ap (λ (u : State). u.id) same) i) (same i).window ((sym bytes ∙ text) i))
    ∙ c.in_ok-text.ensures.reads_back k fast id
