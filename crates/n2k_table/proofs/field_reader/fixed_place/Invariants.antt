-- The strings that are left, from the place so far on, lead to the same place as all.
use Rattle.std.proofs.Common.{◌≡◌, drop}
use Rattle.n2k_table.specs.Field.{fixed_place}
use Rattle.n2k_table.proofs.field_reader.fixed_place.Given as goal

abbrev pub invariant-loop-step : goal.invariant-loop-step
invariant-loop-step l = fixed_place (drop l.step-index l.after) l.place ≡ fixed_place l.after l.at
