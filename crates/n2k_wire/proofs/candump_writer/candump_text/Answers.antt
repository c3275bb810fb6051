use Rattle.std.proofs.Common.{◌≡◌, ap, sym, ◌∙◌, arith, rules, Ok}
use Rattle.n2k_wire.specs.Heads.{line_after}
use Rattle.n2k_wire.specs.Texts.{candump_text}
use Rattle.n2k_wire.proofs.candump_writer.candump_text.Goals as goal

pub returns-in_err-set_head-clause-text : goal.returns-in_err-set_head-clause-text
returns-in_err-set_head-clause-text c = grind (arith, c.in_err-set_head.ensures.fault c.args.packet.now.payload)

pub returns-clause-text : goal.returns-clause-text
returns-clause-text c =
    let p = c.args.packet.now in
    let line : candump_text c.args.interface.now p ≡ Ok (line_after c.set_head.new.head p.payload) = ap (λ i. candump_text i p) (sym c.new.ensures) ∙ c.in_ok-set_head.ensures.ok p.payload in
    rw line (search rules, search rules)
