use Rattle.std.proofs.Common.{ap, ◌∙◌}
use Rattle.n2k_table.specs.Inner.LineBuffer.{LineBufferParts}
use Rattle.n2k_table.proofs.Begins.{adds_to_prefix}
use Rattle.n2k_table.proofs.line_buffer.TextBuffer.extend_past.Goals as goal

pub returns : goal.returns
returns g c =
    let is = c.self.view_is ∙ c.in_ok-settle.ensures.ok in
    adds_to_prefix c.append.result c.args.self.now.items c.self.inside.prefix.items _ c.self.inside.room c.args.bytes.now c.self.inside.at
    (ap (λ (t : LineBufferParts). t.held) is) (ap (λ (t : LineBufferParts). t.items) is) c.append.ensures.ok c.append.ensures.unchanged
