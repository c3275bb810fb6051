-- The text of the characters so far is written, and that of the others is left.
use Rattle.std.proofs.Common.{◌≡◌, true, ◌++◌, length}
use Rattle.std.specs.List.{flat_map}
use Rattle.json.specs.Print.{escape_byte}
use Rattle.n2k_table.specs.Inner.LineBuffer.{begins}
use Rattle.n2k_table.specs.Strings.{wide_text}
use Rattle.n2k_table.proofs.wide_text.push_inner_wide.Given as goal

abbrev pub invariant-loop-letter : goal.invariant-loop-letter
invariant-loop-letter g l = record {
  items : l.line.items ++ flat_map escape_byte (wide_text l.rest) ≡ l.fn.line.items ++ flat_map escape_byte (wide_text l.bytes);
  prefix : begins l.fn.line.items l.line.items ≡ true;
}

abbrev pub decreases-loop-letter : goal.decreases-loop-letter
decreases-loop-letter g l = length l.rest
