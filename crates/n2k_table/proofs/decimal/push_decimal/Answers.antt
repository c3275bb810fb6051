use Rattle.std.proofs.Common.{◌++◌, ℕ, List, ap, ◌∙◌}
use Rattle.std.specs.Int.{w128}
use Rattle.std.specs.Prelude.{unsigned_abs}
use Rattle.std.proofs.lemmas.Int.{to_z-of_z}
use Rattle.n2k_table.specs.Decimal.{sign_of}
use Rattle.n2k_table.proofs.Begins.{begins_self, begins_more, adds_last}
use Rattle.n2k_table.proofs.Decimals.{onto}
use Rattle.n2k_table.proofs.Numbers.{sign_of_below}
use Rattle.n2k_table.proofs.decimal.push_decimal.Goals as goal

pub returns : goal.returns
returns g c =
    let same = to_z-of_z w128 c.args.value c.ranges.value in
    let size = c.unsigned_abs-size.ensures.value ∙ ap unsigned_abs same in
    let sign = (rw c.unsigned_abs-size.ensures.value at c.write_sign.ensures.items) ∙ ap (λ t. c.reserve.new.self.items ++ t) (sign_of_below _) ∙ ap (λ z. c.reserve.new.self.items ++ sign_of z) same ∙ ap (λ (t : List ℕ). t ++ sign_of c.args.value) c.in_ok-reserve.ensures.items in
    adds_last c.push_size.result c.args.line.now.items _ _ _ _ (begins_more c.args.line.now.items c.reserve.new.self.items _ _ (rw c.in_ok-reserve.ensures.items (begins_self c.args.line.now.items)) c.write_sign.ensures.items)
    (λ pushed. onto c.args.value c.args.decimals c.unsigned_abs-size.result _ _ _ size sign (rw (← c.from.ensures) pushed)) c.push_size.ensures
