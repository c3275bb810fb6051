-- The characters so far are written, and the others are left.
use Rattle.std.proofs.Common.{◌≡◌, true, ◌++◌, drop}
use Rattle.std.specs.List.{flat_map}
use Rattle.json.specs.Print.{escape_byte}
use Rattle.n2k_table.specs.Inner.LineBuffer.{begins}
use Rattle.n2k_table.specs.Text.{character}
use Rattle.n2k_table.proofs.text.push_each_character.Given as goal

abbrev pub invariant-loop-number : goal.invariant-loop-number
invariant-loop-number g l = record {
  items : l.line.items ++ flat_map escape_byte (flat_map character (drop l.number-index l.numbers)) ≡ l.fn.line.items ++ flat_map escape_byte (flat_map character l.numbers);
  prefix : begins l.fn.line.items l.line.items ≡ true;
}
