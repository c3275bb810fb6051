use Rattle.std.proofs.Common.{arith}
use Rattle.n2k_table.specs.Inner.Line.{is_plain}
use Rattle.n2k_table.proofs.Escapes.{all_more, all_done}
use Rattle.n2k_table.proofs.text.are_plain.Goals as goal

pub loop-byte-preserved : goal.loop-byte-preserved
loop-byte-preserved c =
    rw c.is_plain-all.ensures (all_more is_plain c.args.text.now c.loop-byte.byte-index c.loop-byte.all (omega arith) c.loop-byte.invariant)

pub returns : goal.returns
returns c = all_done is_plain c.args.text.now c.loop-byte.byte-index c.loop-byte.all (omega arith) c.loop-byte.invariant
