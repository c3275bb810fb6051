use Rattle.std.proofs.Common.{arith}
use Rattle.n2k_table.specs.Inner.Line.{is_usual}
use Rattle.n2k_table.proofs.Escapes.{all_more, all_done}
use Rattle.n2k_table.proofs.json_header.are_usual.Goals as goal

pub loop-byte-preserved : goal.loop-byte-preserved
loop-byte-preserved c =
    rw c.is_usual_byte-all.ensures (all_more is_usual c.args.bytes.now c.loop-byte.byte-index c.loop-byte.all (omega arith) c.loop-byte.invariant)

pub returns : goal.returns
returns c = all_done is_usual c.args.bytes.now c.loop-byte.byte-index c.loop-byte.all (omega arith) c.loop-byte.invariant
