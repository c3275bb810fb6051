use Rattle.std.proofs.Common.{◌≡◌, drop}
use Rattle.n2k_encode.specs.Says.{has_pieces}
use Rattle.n2k_table.specs.Text.{character}
use Rattle.n2k_encode.proofs.shows.has_latin1.Given as goal

-- what is left has the pieces that are left, if the text has all
abbrev pub invariant-loop-byte : goal.invariant-loop-byte
invariant-loop-byte l = has_pieces character (drop l.byte-index l.bytes) l.rest ≡ has_pieces character l.bytes l.text
