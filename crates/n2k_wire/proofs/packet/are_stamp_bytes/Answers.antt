use Rattle.std.proofs.Common.{arith}
use Rattle.n2k_wire.specs.Packet.{is_stamp_byte}
use Rattle.n2k_wire.proofs.HexDigits.{all_more, all_done}
use Rattle.n2k_wire.proofs.packet.are_stamp_bytes.Goals as goal

pub loop-byte-preserved : goal.loop-byte-preserved
loop-byte-preserved c =
    rw c.is_stamp_byte-all.ensures (all_more is_stamp_byte c.args.text.now c.loop-byte.byte-index c.loop-byte.all (omega arith) c.loop-byte.invariant)

pub returns : goal.returns
returns c = all_done is_stamp_byte c.args.text.now c.loop-byte.byte-index c.loop-byte.all (omega arith) c.loop-byte.invariant
