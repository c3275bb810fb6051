-- The data after the strings left are the data after all of them.
use Rattle.std.proofs.Common.{◌≡◌, drop}
use Rattle.n2k_table.specs.Strings.{data_after}
use Rattle.n2k_table.proofs.string_place.data_after.Given as goal

abbrev pub invariant-loop-step : goal.invariant-loop-step
invariant-loop-step l = data_after (drop l.step-index l.steps) l.rest ≡ data_after l.steps l.«data»
