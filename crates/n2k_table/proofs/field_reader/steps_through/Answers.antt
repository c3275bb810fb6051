use Rattle.std.proofs.Common.{◌≡◌, [], ◌∷◌, ◌++◌, ap, arith}
use Rattle.std.proofs.lemmas.Grind.{common_steps}
use Rattle.n2k_table.specs.declared.string_place.Step.{Step}
use Rattle.n2k_table.specs.Field.{fixed_place}
use Rattle.n2k_table.proofs.Steps.{from_beginning, after_string}
use Rattle.n2k_table.proofs.field_reader.steps_through.Goals as goal
use Rattle.n2k_table.proofs.field_reader.steps_through.Goals.{in-String+in_ok-push, in_default}

pub returns-clause-room : goal.returns-clause-room
returns-clause-room c = elim c.match-earlier.branch [
  | in-String+in_ok-push w ↦
      let f = c.earlier.inside in
      let step : Step = record { at = f.at; form = w.in-String.form } in
      let built : c.match-earlier.steps.items ≡ f.after.items ++ step ∷ [] = grind (arith, common_steps) in
      omega (arith, after_string c.match-earlier.steps.items f.after.items step built, c.earlier.invariant.fixed)
  | in_default w ↦
      let f = c.earlier.inside in
      let built : c.match-earlier.steps.items ≡ f.after.items = grind (arith, common_steps) in
      let same = ap (λ ss. fixed_place ss 0) built in
      omega (arith, same, from_beginning f.after.items f.at, c.earlier.invariant.fixed)
]
