-- The bytes so far and the bytes left are plain if all are.
use Rattle.std.proofs.Common.{◌≡◌, ◌&&◌, drop}
use Rattle.std.specs.List.{list_all}
use Rattle.n2k_table.specs.Inner.Line.{is_plain}
use Rattle.n2k_table.proofs.text.are_plain.Given as goal

abbrev pub invariant-loop-byte : goal.invariant-loop-byte
invariant-loop-byte l = (l.all && list_all is_plain (drop l.byte-index l.text)) ≡ list_all is_plain l.text
