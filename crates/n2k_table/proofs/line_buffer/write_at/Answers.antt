use Rattle.std.proofs.Common.{◌≡◌, ◌+◌, ◌-◌, ◌++◌, ℕ, List, length, take, ap, ◌∙◌, arith}
use Rattle.std.proofs.lemmas.Slice.{take-put_mid}
use Rattle.n2k_table.proofs.line_buffer.write_at.Goals as goal

pub returns-clause-bytes : goal.returns-clause-bytes
returns-clause-bytes g c =
    let at = c.args.at in
    let room = c.args.room.now in
    let put = c.copy_from_slice.new.self in
    let same : put ≡ c.args.bytes = c.copy_from_slice.ensures.after in
    take-put_mid at (at + g.row.N - at) room put (at + g.row.N) (omega (arith, ap length same, c.well_formed)) (omega (arith, c.requires))
    ∙ ap (λ (t : List ℕ). take at room ++ t) same
