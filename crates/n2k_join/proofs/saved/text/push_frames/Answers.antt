use Rattle.std.proofs.Common.{arith}
use Rattle.n2k_join.proofs.SavedPieces.{frames_written}
use Rattle.n2k_join.proofs.saved.text.push_frames.Goals as goal

pub returns : goal.returns
returns c = grind (arith, frames_written)
