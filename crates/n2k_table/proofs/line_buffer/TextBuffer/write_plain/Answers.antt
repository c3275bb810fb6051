use Rattle.std.proofs.Common.{take, ap, sym, ◌∙◌}
use Rattle.n2k_wire.specs.Texts.{plain_text}
use Rattle.n2k_table.specs.Inner.LineBuffer.{LineBufferParts}
use Rattle.n2k_table.proofs.Rooms.{appended}
use Rattle.n2k_table.proofs.line_buffer.TextBuffer.write_plain.Goals as goal

pub returns : goal.returns
returns g c =
    let items = ap (λ (t : LineBufferParts). t.items) (sym c.self.view_is) in
    appended c.args.self.now.items c.self.inside.prefix.items (take c.self.inside.at c.self.inside.room) (plain_text c.args.packet.now) _ items c.write_line-self-inside.ensures.bytes
