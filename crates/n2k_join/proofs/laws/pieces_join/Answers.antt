use Rattle.std.proofs.Common.{refl}
use Rattle.n2k_join.proofs.WholePieces.{pieces_join}
use Rattle.n2k_join.proofs.laws.pieces_join.Goals as goal

pub returns : goal.returns
returns c = record { pieces = pieces_join; longest = record { all = refl; no_more = refl } }
