use Rattle.std.proofs.Common.{◌≡◌, ◌+◌, ◌-◌, ◌++◌, ℕ, List, length, take, ap, sym, ◌∙◌, arith}
use Rattle.std.proofs.lemmas.Slice.{take-put_mid}
use Rattle.n2k_table.specs.Inner.LineBuffer.{LineBufferParts}
use Rattle.n2k_table.proofs.Rooms.{appended}
use Rattle.n2k_table.proofs.line_buffer.TextBuffer.extend_from_slice.Goals as goal

pub returns-then-bytes-self : goal.returns-then-bytes-self
returns-then-bytes-self g c =
    let at = c.self.inside.at in
    let room = c.self.inside.room in
    let bytes = c.args.bytes.now in
    let put = c.copy_from_slice.new.self in
    let same : put ≡ bytes = c.copy_from_slice.ensures.after in
    let text = take-put_mid at (at + length bytes - at) room put (at + length bytes) (omega (arith, ap length same)) (omega (arith, c.self.invariant, c.self.told)) in
    appended c.args.self.now.items c.self.inside.prefix.items (take at room) bytes _ (ap (λ (t : LineBufferParts). t.items) (sym c.self.view_is))
    (text ∙ ap (λ (t : List ℕ). take at room ++ t) same)
