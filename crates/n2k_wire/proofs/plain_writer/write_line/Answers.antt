use Rattle.std.proofs.Common.{append_assoc, arith, take}
use Rattle.n2k_wire.specs.Heads.{plain_head, plain_end}
use Rattle.n2k_wire.proofs.PlainTexts.{line_is}
use Rattle.n2k_wire.proofs.plain_writer.write_line.Goals as goal

pub returns-clause-bytes : goal.returns-clause-bytes
returns-clause-bytes c =
    let p = c.args.packet.now in
    grind (arith, c.put_end.ensures.bytes, c.put_head-at.ensures.bytes, c.data.ensures.value, line_is p p.payload, append_assoc (take c.args.at c.args.text.now) (plain_head p) (plain_end p.payload))
