use Rattle.std.proofs.Common.{arith}
use Rattle.n2k_wire.proofs.PlainTexts.{line_is}
use Rattle.n2k_wire.proofs.line_head.LineHead.set_plain.Goals as goal

pub returns : goal.returns
returns c = λ payload. grind (arith, c.put_head-self-inside.ensures.bytes, c.put_head-self-inside.ensures.plain, line_is c.args.packet.now payload)
