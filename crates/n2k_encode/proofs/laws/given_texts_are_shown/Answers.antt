use Rattle.n2k_encode.proofs.Pieces.{pieces_are}
use Rattle.n2k_encode.proofs.laws.given_texts_are_shown.Goals as goal

pub returns : goal.returns
returns c = pieces_are
