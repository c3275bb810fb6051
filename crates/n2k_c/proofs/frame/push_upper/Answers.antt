use Rattle.std.proofs.Common.{◌≡◌, ◌++◌, ap, ◌∙◌, rules}
use Rattle.hex.specs.Hex.{encode_upper}
use Rattle.n2k_wire.proofs.CandumpLemmas.{upper_of_lower}
use Rattle.n2k_c.proofs.frame.push_upper.Goals as goal

pub returns : goal.returns
returns c =
    let same : c.make_ascii_uppercase.new.self ≡ encode_upper c.args.bytes.now = search (rules, upper_of_lower) in
    c.in_ok-extend_from_slice.ensures.items ∙ ap (λ digits. c.args.line.now.items ++ digits) same
