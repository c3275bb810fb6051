use Rattle.std.proofs.Common.{◌≡◌, ◌≤◌, ◌++◌, take, length, ap, ◌∙◌, arith, length-take-le, take-take}
use Rattle.n2k_wire.proofs.line_head.LineHead.put.Goals as goal

pub returns-clause-bytes : goal.returns-clause-bytes
returns-clause-bytes c =
    let len = c.self.inside.len in
    let bytes = c.self.inside.bytes in
    let short : len ≤ 32 = omega (arith, c.requires.short, ap length c.self.view_is, length-take-le len bytes (omega (arith, c.self.invariant, c.self.told))) in
    let first : take len c.in-Some.first.now ≡ take len bytes = ap (take len) c.in-Some.ensures.cases.same ∙ take-take len 32 bytes short in
    c.put.ensures.bytes ∙ ap (λ t. take c.args.at c.args.text.now ++ t) (first ∙ c.self.view_is)
