use Rattle.std.proofs.Common.{rules, ◌≡◌, ◌+◌, ◌≤◌, ◌++◌, ◌∙◌, length, length-append, ap, arith}
use Rattle.n2k_encode.proofs.Scaling.{all_kept}
use Rattle.n2k_encode.proofs.numeral.kept_value.Goals as goal

pub returns-then-count-le19 : goal.returns-then-count-le19
returns-then-count-le19 c =
    let p = c.args.numeral.now in
    let w : length c.whole-whole.result.now ≡ length p.whole = ap length c.whole-whole.ensures.value in
    let f : length c.fraction-fraction.result.now ≡ length p.fraction = ap length c.fraction-fraction.ensures in
    let count : c.args.count ≡ length c.whole-whole.result.now + length c.fraction-fraction.result.now = search rules in
    let few : c.args.count ≤ 19 = search rules in
    let long : length (p.whole ++ p.fraction) ≡ length p.whole + length p.fraction = length-append p.whole p.fraction in
    c.from.ensures ∙ c.wrapped_digits.ensures ∙ all_kept (p.whole ++ p.fraction) c.args.count c.whole-whole.ensures.digits (omega (arith, long, w, f, count)) (omega (arith, long, w, f, count, few))
