-- The digits so far are written, and the others are left.
use Rattle.std.proofs.Common.{◌≡◌, true, ◌++◌, drop}
use Rattle.std.specs.List.{flat_map}
use Rattle.n2k_table.specs.Inner.LineBuffer.{begins}
use Rattle.n2k_table.specs.Text.{two_digits}
use Rattle.n2k_table.proofs.text.push_inner_digits.Given as goal

abbrev pub invariant-loop-byte : goal.invariant-loop-byte
invariant-loop-byte g l = record {
  items : l.line.items ++ flat_map two_digits (drop l.byte-index l.bytes) ≡ l.fn.line.items ++ flat_map two_digits l.bytes;
  prefix : begins l.fn.line.items l.line.items ≡ true;
}
