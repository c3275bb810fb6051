use Rattle.std.proofs.Common.{arith}
use Rattle.n2k_join.proofs.SavedPieces.{group_written}
use Rattle.n2k_join.proofs.saved.text.push_group.Goals as goal

pub returns : goal.returns
returns c = grind (arith, group_written)
