use Rattle.std.proofs.Common.{◌≡◌, [], ◌∷◌, ◌+◌, drop, get_or, sym, ap, ◌∙◌, List, arith}
use Rattle.std.proofs.lemmas.List.{drop_more, drop_all}
use Rattle.n2k_table.specs.declared.string_place.Form.TheVariants.{Lau}
use Rattle.n2k_table.specs.declared.string_place.Step.{Step}
use Rattle.n2k_table.specs.Field.{fixed_place}
use Rattle.n2k_table.proofs.Steps.{not_before, from_beginning}
use Rattle.n2k_table.proofs.field_reader.fixed_place.Goals as goal

pub overflow_add-place : goal.overflow_add-place
overflow_add-place c =
    let all = c.args.after.now in
    let i = c.loop-step.step-index in
    let place = c.loop-step.place in
    let step : Step = get_or all i (record { at = 0; form = Lau }) in
    let rest = drop (i + 1) all in
    let split : drop i all ≡ step ∷ rest = drop_more all i (record { at = 0; form = Lau }) c.loop-step-test.true in
    let same : fixed_place rest (step.at + place) ≡ fixed_place all c.args.at = sym (ap (λ (ss : List Step). fixed_place ss place) split) ∙ c.loop-step.invariant in
    omega (arith, not_before rest (step.at + place), from_beginning all c.args.at, same, c.requires)

pub returns-clause-later : goal.returns-clause-later
returns-clause-later c =
    let all = c.args.after.now in
    let i = c.loop-step.step-index in
    let none : drop i all ≡ [] = drop_all i all c.loop-step-test.false in
    sym (ap (λ (ss : List Step). fixed_place ss c.loop-step.place) none) ∙ c.loop-step.invariant ∙ from_beginning all c.args.at
