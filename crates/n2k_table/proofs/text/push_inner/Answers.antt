use Rattle.std.proofs.Common.{sym}
use Rattle.n2k_table.proofs.Escapes.{escape-plain}
use Rattle.n2k_table.proofs.text.push_inner.Goals as goal

pub returns-then-are_plain : goal.returns-then-are_plain
returns-then-are_plain g c = rw (escape-plain c.args.text.now (sym c.if-are_plain.ensures)) c.extend_from_slice.ensures
