use Rattle.std.proofs.Common.{◌++◌, ap, ◌∙◌}
use Rattle.n2k_table.proofs.Begins.{begins_self, begins_more, adds_last}
use Rattle.n2k_table.proofs.Decimals.{onto}
use Rattle.n2k_table.proofs.Numbers.{size_is, sign_is}
use Rattle.n2k_table.specs.Inner.Number.{value_of}
use Rattle.n2k_table.proofs.decimal.push_number.Goals as goal

pub returns : goal.returns
returns g c =
    let n = c.args.number in
    adds_last c.push_size.result c.args.line.now.items _ _ _ _ (begins_more _ _ _ _ (begins_self _) c.write_sign.ensures.items)
    (λ pushed. onto (value_of n) n.resolution.decimals _ c.args.line.now.items _ _ (size_is n)
    (rw (c.from.ensures, c.from-2.ensures) at c.write_sign.ensures.items ∙ ap (λ t. c.args.line.now.items ++ t) (sign_is n))
    (rw (← c.from.ensures, ← c.from-2.ensures, ← c.from-3.ensures) pushed)) c.push_size.ensures
