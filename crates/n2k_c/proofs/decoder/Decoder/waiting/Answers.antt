use Rattle.std.proofs.Common.{◌≡◌, ℕ, ◌+◌, ap, sym, ◌∙◌, length, length-append, rules}
use Rattle.n2k_c.specs.Stands.{taken_of}
use Rattle.n2k_c.proofs.decoder.Decoder.waiting.Goals as goal

pub returns : goal.returns
returns c = λ t job fed is_whole printed reported s.
    let size : c.len.result ≡ length c.args.self.now.cut.items = search rules in
    ap length s.fed_is ∙ length-append (taken_of is_whole fed) c.args.self.now.cut.items ∙ ap (λ (n : ℕ). length (taken_of is_whole fed) + n) (sym size)
