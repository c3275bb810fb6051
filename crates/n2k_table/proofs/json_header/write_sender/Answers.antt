use Rattle.std.proofs.Common.{◌≡◌, ◌++◌, ◌∙◌, ℕ, List, codes, decimal, ap, append_assoc, arith}
use Rattle.std.proofs.lemmas.Fmt.{decimal_digit}
use Rattle.n2k_table.specs.Inner.Line.{sender_json}
use Rattle.n2k_table.proofs.Headers.{two_parts}
use Rattle.n2k_table.proofs.json_header.write_sender.Goals as goal

pub returns : goal.returns
unfolding sender_json
returns g c =
    let id = c.args.id in
    let line = c.args.line.now.items in
    let source : c.write_part.new.line.items ≡ line ++ (codes ",\"prio\":" ++ decimal id.prio ++ codes ",\"src\":" ++ decimal id.src) =
    rw (decimal_digit id.prio (omega (arith, c.requires.prio))) c.write_part.ensures.items in
    two_parts line _ (codes ",\"dst\":" ++ decimal id.dst) _ _ source c.write_part-2.ensures.items ∙ ap (λ (t : List ℕ). line ++ t) (simp append_assoc)
