use Rattle.std.proofs.Common.{◌≡◌, ◌++◌, ◌<◌, ℕ, List, length, sym, ap, ◌∙◌, arith, decimal}
use Rattle.std.proofs.lemmas.Fmt.{decimal_nonempty}
use Rattle.n2k_table.specs.Decimal.{dotted, padded_digits}
use Rattle.n2k_table.proofs.Placed.{whole_is}
use Rattle.n2k_table.proofs.Words.{short_is}
use Rattle.n2k_table.proofs.decimal_fast.write_short.Goals as goal

pub returns-then-size-lt256 : goal.returns-then-size-lt256
returns-then-size-lt256 g c =
    let n = c.args.size in
    let none : c.args.decimals ≡ 0 = omega arith in
    let some : 0 < length (decimal n) = decimal_nonempty n (omega (arith, c.ranges.size.fits)) in
    let is = c.number_text-count.ensures.text ∙ sym (whole_is n some) in
    c.write.ensures.items ∙ ap (λ (t : List ℕ). c.args.line.now.items ++ t) (is ∙ ap (λ e. dotted e (padded_digits n e)) (sym none))

pub returns-then-decimals-lt-DIGITS : goal.returns-then-decimals-lt-DIGITS
returns-then-decimals-lt-DIGITS g c =
    let prefix = c.to_le_bytes.result in
    let back = c.to_le_bytes-then-decimals-lt-DIGITS.result in
    let is =
    short_is c.args.size c.args.decimals c.min-skipped.result c.eight_values-values.result prefix back c.if-size-lt-LEAST_LONG.true c.if-decimals-lt-DIGITS.true
    c.eight_values-values.ensures c.min-skipped.ensures c.to_le_bytes.ensures c.to_le_bytes-then-decimals-lt-DIGITS.ensures in
    c.write_parts.ensures ∙ ap (λ (t : List ℕ). c.args.line.now.items ++ t) is
