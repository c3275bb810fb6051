use Rattle.std.proofs.Common.{arith, refl, length-set}
use Rattle.n2k_join.proofs.SlotLemmas.{total-slot, taken-slots, seven-slots}
use Rattle.n2k_join.proofs.piece.OpenGroup.take.Goals as goal

pub invariant_of-self : goal.invariant_of-self
invariant_of-self c = grind (arith, length-set, seven-slots, total-slot)

pub returns-clause-taken : goal.returns-clause-taken
returns-clause-taken c key = grind (arith, taken-slots c.args.self.now.first c.args.self.now.mask c.args.piece.number c.args.self.now.slots c.args.piece.bytes c.args.piece.small c.args.self.now.many key c.args.self.now refl refl refl c.requires)
