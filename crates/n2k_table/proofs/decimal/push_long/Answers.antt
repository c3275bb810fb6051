use Rattle.std.proofs.Common.{◌≡◌, ◌++◌, ◌<◌, ◌^◌, ℕ, List, length, ap, ◌∙◌, arith, decimal}
use Rattle.n2k_table.specs.Inner.Digits.{zero_filled}
use Rattle.n2k_table.proofs.Begins.{begins_self, adds_last}
use Rattle.n2k_table.proofs.Decimals.{zero_filled_padded}
use Rattle.n2k_table.proofs.decimal.push_long.Goals as goal

pub returns-else-decimals-digits : goal.returns-else-decimals-digits
returns-else-decimals-digits g c =
    let is : c.as_bytes-digits.result.now ≡ decimal c.args.size = c.as_bytes-digits.ensures.value ∙ c.format.ensures.text in
    let small : c.args.size < 10 ^ 64 = omega (arith, c.ranges.size.fits) in
    let text = ap (zero_filled c.args.decimals) is ∙ zero_filled_padded c.args.size c.args.decimals small (omega (arith, ap length is, c.if-decimals-digits.false)) in
    adds_last c.push_filled.result c.args.line.now.items _ _ _ _ (begins_self _) (λ pushed. pushed ∙ ap (λ (t : List ℕ). c.args.line.now.items ++ t) text) c.push_filled.ensures
