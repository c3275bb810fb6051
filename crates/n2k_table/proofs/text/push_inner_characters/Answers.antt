use Rattle.std.proofs.Common.{sym}
use Rattle.n2k_table.proofs.Escapes.{escape-characters}
use Rattle.n2k_table.proofs.text.push_inner_characters.Goals as goal

pub returns-then-are_plain_characters : goal.returns-then-are_plain_characters
returns-then-are_plain_characters g c = rw (escape-characters c.args.numbers.now (sym c.if-are_plain_characters.ensures)) c.extend_from_slice.ensures
