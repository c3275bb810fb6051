use Rattle.std.proofs.Common.{arith}
use Rattle.n2k_table.proofs.Escapes.{escape-character}
use Rattle.n2k_table.proofs.text.push_character.Goals as goal

pub returns-else-byte-lt128 : goal.returns-else-byte-lt128
returns-else-byte-lt128 g c =
    rw (escape-character c.args.byte c.if-byte-lt128.false (omega arith)) c.extend_from_slice.ensures
