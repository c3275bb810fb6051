use Rattle.std.proofs.Common.{sym}
use Rattle.n2k_wire.proofs.PlainFast.{is_found, line_parts}
use Rattle.n2k_wire.proofs.plain_fast.stamp_before.Goals as goal

pub returns-clause-line : goal.returns-clause-line
returns-clause-line c =
    line_parts c.stamp_len-len.result c.args.line.now c.split_at.result.0.now c.split_at.result.1.now c.in_ok-text.text.now c.split_at.ensures.front c.split_at.ensures.back c.in_ok-text.ensures

pub returns-clause-stamp : goal.returns-clause-stamp
returns-clause-stamp c =
    is_found c.stamp_len-len.result c.args.line.now c.in_ok-first_chunk.field-0.now c.split_at.result.0.now c.in_ok-first_chunk.ensures.cases.same c.split_at.ensures.front c.stamp_len-len.ensures.within c.split_at.ensures.front_len c.stamp_len-len.ensures.prefix (sym c.if-not-starts_stamp.ensures)
