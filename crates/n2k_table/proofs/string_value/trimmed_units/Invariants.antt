-- What is kept are whole units, and ends at the same one as the bytes.
use Rattle.std.proofs.Common.{◌≡◌, ◌%◌, ◌≤◌, length, take}
use Rattle.n2k_table.specs.Shown.{trimmed_of}
use Rattle.n2k_table.specs.Strings.{units, is_filling_unit}
use Rattle.n2k_table.proofs.string_value.trimmed_units.Given as goal

abbrev pub invariant-loop-end : goal.invariant-loop-end
invariant-loop-end l =
    (l.end % 2 ≡ 0) × (l.end ≤ length l.bytes)
    × (trimmed_of is_filling_unit (units (take l.end l.bytes)) ≡ trimmed_of is_filling_unit (units l.bytes))

abbrev pub decreases-loop-end : goal.decreases-loop-end
decreases-loop-end l = l.end
