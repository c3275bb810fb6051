use Rattle.std.proofs.Common.{◌≡◌, drop}
use Rattle.n2k_encode.specs.Says.{has_pieces, later_pair}
use Rattle.n2k_encode.proofs.shows.has_later_pairs.Given as goal

-- what is left has the pieces that are left, if the text has all
abbrev pub invariant-loop-byte : goal.invariant-loop-byte
invariant-loop-byte l = has_pieces later_pair (drop l.byte-index l.bytes) l.rest ≡ has_pieces later_pair l.bytes l.text
