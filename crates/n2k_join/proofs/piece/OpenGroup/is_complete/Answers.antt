use Rattle.std.proofs.Common.{arith, ◌∙◌, sym, eqb-true}
use Rattle.n2k_join.proofs.SlotLemmas.{is_some-slot, incomplete-slots, complete-slots}
use Rattle.n2k_join.proofs.piece.OpenGroup.is_complete.Goals as goal

pub returns-then-not-has : goal.returns-then-not-has
returns-then-not-has c key = sym (incomplete-slots key c.args.self.now (sym c.has.ensures ∙ c.if-not-has.true))

pub returns : goal.returns
returns c key = grind (arith, eqb-true, is_some-slot, complete-slots)
