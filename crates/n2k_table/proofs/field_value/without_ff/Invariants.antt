-- What is kept ends at the same byte as the bytes.
use Rattle.std.proofs.Common.{◌≡◌, length}
use Rattle.n2k_table.specs.Shown.{trimmed_of, is_no_digit}
use Rattle.n2k_table.proofs.field_value.without_ff.Given as goal

abbrev pub invariant-loop-last : goal.invariant-loop-last
invariant-loop-last l = trimmed_of is_no_digit l.kept ≡ trimmed_of is_no_digit l.bytes

abbrev pub decreases-loop-last : goal.decreases-loop-last
decreases-loop-last l = length l.kept
