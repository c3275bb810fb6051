-- The text of the bytes so far is written, and that of the others is left.
use Rattle.std.proofs.Common.{◌≡◌, true, ◌++◌, drop}
use Rattle.std.specs.List.{flat_map}
use Rattle.json.specs.Print.{escape_byte}
use Rattle.n2k_table.specs.Inner.LineBuffer.{begins}
use Rattle.n2k_table.proofs.text.push_each.Given as goal

abbrev pub invariant-loop-byte : goal.invariant-loop-byte
invariant-loop-byte g l = record {
  items : l.line.items ++ flat_map escape_byte (drop l.byte-index l.text) ≡ l.fn.line.items ++ flat_map escape_byte l.text;
  prefix : begins l.fn.line.items l.line.items ≡ true;
}
