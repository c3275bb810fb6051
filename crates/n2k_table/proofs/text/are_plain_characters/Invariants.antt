-- The bytes so far and the bytes left are plain characters if all are.
use Rattle.std.proofs.Common.{◌≡◌, ◌&&◌, drop}
use Rattle.std.specs.List.{list_all}
use Rattle.n2k_table.specs.Inner.Line.{is_plain_character}
use Rattle.n2k_table.proofs.text.are_plain_characters.Given as goal

abbrev pub invariant-loop-number : goal.invariant-loop-number
invariant-loop-number l = (l.all && list_all is_plain_character (drop l.number-index l.numbers)) ≡ list_all is_plain_character l.numbers
