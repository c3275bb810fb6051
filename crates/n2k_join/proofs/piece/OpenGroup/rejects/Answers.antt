use Rattle.std.proofs.Common.{arith}
use Rattle.n2k_join.proofs.SlotLemmas.{carried-slots, from-mask}
use Rattle.n2k_join.proofs.piece.OpenGroup.rejects.Goals as goal

pub returns-then-in_order : goal.returns-then-in_order
returns-then-in_order c key = grind (arith, from-mask)

pub returns-else-in_order : goal.returns-else-in_order
returns-else-in_order c key = grind (arith, carried-slots)
