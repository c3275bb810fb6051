-- The bytes so far and the bytes left are usual if all are.
use Rattle.std.proofs.Common.{◌≡◌, ◌&&◌, drop}
use Rattle.std.specs.List.{list_all}
use Rattle.n2k_table.specs.Inner.Line.{is_usual}
use Rattle.n2k_table.proofs.json_header.are_usual.Given as goal

abbrev pub invariant-loop-byte : goal.invariant-loop-byte
invariant-loop-byte l = (l.all && list_all is_usual (drop l.byte-index l.bytes)) ≡ list_all is_usual l.bytes
