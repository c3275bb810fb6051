use Rattle.std.proofs.Common.{arith}
use Rattle.n2k_join.proofs.SavedPieces.{open_written}
use Rattle.n2k_join.proofs.saved.text.push_open.Goals as goal

pub returns : goal.returns
returns c = grind (arith, open_written)
