use Rattle.std.proofs.Common.{◌+◌, arith}
use Rattle.std.proofs.lemmas.Simd.{take_more_put_chunk}
use Rattle.n2k_wire.proofs.PlainTexts.{partly}
use Rattle.n2k_wire.proofs.plain_writer.put.Goals as goal

pub returns-clause-bytes : goal.returns-clause-bytes
returns-clause-bytes g c =
    let at = c.args.at in
    let text = c.args.text.now in
    let column = c.args.column.now in
    partly _ text column at c.args.count g.row.N (take_more_put_chunk at text column (at + g.row.N) (omega (arith, c.told-column)) c.requires.room) c.requires.few (omega (arith, c.requires.room))
