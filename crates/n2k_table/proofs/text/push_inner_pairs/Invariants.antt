-- The pairs so far are written, and the others are left, each after a space.
use Rattle.std.proofs.Common.{◌≡◌, true, ◌++◌, drop}
use Rattle.n2k_table.specs.Inner.LineBuffer.{begins}
use Rattle.n2k_table.specs.Text.{hex_pairs}
use Rattle.n2k_table.proofs.Escapes.{later_pairs}
use Rattle.n2k_table.proofs.text.push_inner_pairs.Given as goal

abbrev pub invariant-loop-byte : goal.invariant-loop-byte
invariant-loop-byte g l = record {
  items : l.line.items ++ later_pairs (drop l.byte-index l.rest) ≡ l.fn.line.items ++ hex_pairs l.bytes;
  prefix : begins l.fn.line.items l.line.items ≡ true;
}
