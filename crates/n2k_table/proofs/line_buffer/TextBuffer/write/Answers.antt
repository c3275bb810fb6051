use Rattle.std.proofs.Common.{take, ap, sym, arith}
use Rattle.n2k_table.specs.Inner.LineBuffer.{LineBufferParts}
use Rattle.n2k_table.proofs.Rooms.{partly, appended}
use Rattle.n2k_table.proofs.line_buffer.TextBuffer.write.Goals as goal

pub returns-clause-items : goal.returns-clause-items
returns-clause-items g c =
    let at = c.self.inside.at in
    let room = c.self.inside.room in
    let text = partly c.write_at.new.room room c.args.bytes.now at c.args.count g.row.N c.write_at.ensures.bytes c.requires.few (omega (arith, c.self.invariant, c.self.told)) in
    appended c.args.self.now.items c.self.inside.prefix.items (take at room) (take c.args.count c.args.bytes.now) _ (ap (λ (t : LineBufferParts). t.items) (sym c.self.view_is)) text
