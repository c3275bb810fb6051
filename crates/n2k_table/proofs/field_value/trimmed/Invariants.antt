-- What is kept ends at the same byte as the text.
use Rattle.std.proofs.Common.{◌≡◌, length}
use Rattle.n2k_table.specs.Shown.{trimmed}
use Rattle.n2k_table.proofs.field_value.trimmed.Given as goal

abbrev pub invariant-loop-last : goal.invariant-loop-last
invariant-loop-last l = trimmed l.kept ≡ trimmed l.text

abbrev pub decreases-loop-last : goal.decreases-loop-last
decreases-loop-last l = length l.kept
