use Rattle.std.proofs.Common.{arith, refl}
use Rattle.n2k_join.specs.Inner.Slots.{slot_of}
use Rattle.n2k_join.proofs.SavedPieces.{none_written, more_written, all_written}
use Rattle.n2k_join.proofs.saved.text.push_pieces.Goals as goal

pub loop-number-init : goal.loop-number-init
loop-number-init c = record { tokens = none_written c.args.out.now.tokens (slot_of c.args.group.now); before = refl }

pub loop-number-preserved : goal.loop-number-preserved
loop-number-preserved c = grind (arith, more_written (slot_of c.args.group.now) c.loop-number.number c.args.out.now.tokens c.loop-number.out.tokens c.push_numbered.new.out.tokens c.in_ok-push_numbered.ensures.tokens c.loop-number.invariant.tokens)

pub returns : goal.returns
returns c = grind (arith, all_written)
