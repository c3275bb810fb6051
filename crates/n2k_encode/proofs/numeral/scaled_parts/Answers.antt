use Rattle.std.proofs.Common.{rules, ◌≡◌, ℕ, List, ◌+◌, ◌-◌, ◌*◌, ◌^◌, ◌<◌, ◌++◌, min, take, drop, length, length-append, not, nat_eq, nat_lt, arith, refl, sym, ap, ◌∙◌, subst}
use Rattle.std.specs.Str.Parse.{digits_value}
use Rattle.n2k_encode.specs.Numeral.{point, whole_part, has_fraction}
use Rattle.n2k_encode.proofs.Scaling.{whole_found, rest_found, too_great, fits}
use Rattle.n2k_encode.proofs.numeral.scaled_parts.Goals as goal

pub returns-then-size-ge-LIMIT : goal.returns-then-size-ge-LIMIT
returns-then-size-ge-LIMIT c =
    let p = c.args.numeral.now in
    let ws = c.whole-whole.result.now in
    let fs = c.fraction-fraction.result.now in
    let at = point c.args.shift p in
    let size = c.with_zeros-size.result in
    let long : length (ws ++ fs) ≡ length ws + length fs = length-append ws fs in
    let few : length c.args.numeral.now.fraction < 2 ^ 63 = search rules in
    let w : length ws ≡ length p.whole = ap length c.whole-whole.ensures.value in
    let f : length fs ≡ length p.fraction = ap length c.fraction-fraction.ensures in
    let same : ws ++ fs ≡ p.whole ++ p.fraction = rw (c.whole-whole.ensures.value, c.fraction-fraction.ensures) refl in
    let kept : c.kept_value.result ≡ min (digits_value 10 (take c.min-kept.result (ws ++ fs))) (2 ^ 100) =
    c.kept_value.ensures ∙ ap (λ (ds : List ℕ). min (digits_value 10 (take c.min-kept.result ds)) (2 ^ 100)) (sym same) in
    let found = whole_found (ws ++ fs) (length p.whole) at c.point-point.result c.min-kept.result c.min-zeros.result c.kept_value.result size
    (omega (arith, long, few, w, f)) c.point-point.ensures (omega (arith, long)) (omega (arith, long)) kept c.with_zeros-size.ensures in
    let whole : size ≡ min (whole_part c.args.shift p) (2 ^ 100) = subst (λ (ds : List ℕ). size ≡ min (digits_value 10 (take at ds) * 10 ^ (at - length ds)) (2 ^ 100)) same found in
    sym (too_great c.args.shift p (omega (arith, whole)))

pub returns : goal.returns
returns c =
    let p = c.args.numeral.now in
    let ws = c.whole-whole.result.now in
    let fs = c.fraction-fraction.result.now in
    let at = point c.args.shift p in
    let size = c.with_zeros-size.result in
    let long : length (ws ++ fs) ≡ length ws + length fs = length-append ws fs in
    let few : length c.args.numeral.now.fraction < 2 ^ 63 = search rules in
    let w : length ws ≡ length p.whole = ap length c.whole-whole.ensures.value in
    let f : length fs ≡ length p.fraction = ap length c.fraction-fraction.ensures in
    let same : ws ++ fs ≡ p.whole ++ p.fraction = rw (c.whole-whole.ensures.value, c.fraction-fraction.ensures) refl in
    let kept : c.kept_value.result ≡ min (digits_value 10 (take c.min-kept.result (ws ++ fs))) (2 ^ 100) =
    c.kept_value.ensures ∙ ap (λ (ds : List ℕ). min (digits_value 10 (take c.min-kept.result ds)) (2 ^ 100)) (sym same) in
    let found = whole_found (ws ++ fs) (length p.whole) at c.point-point.result c.min-kept.result c.min-zeros.result c.kept_value.result size
    (omega (arith, long, few, w, f)) c.point-point.ensures (omega (arith, long)) (omega (arith, long)) kept c.with_zeros-size.ensures in
    let whole : size ≡ min (whole_part c.args.shift p) (2 ^ 100) = subst (λ (ds : List ℕ). size ≡ min (digits_value 10 (take at ds) * 10 ^ (at - length ds)) (2 ^ 100)) same found in
    let rest = rest_found (ws ++ fs) (length p.whole) at c.point-point.result c.min-kept.result c.skip_zeros.result
    (omega (arith, long, few, w, f)) c.point-point.ensures (omega (arith, long)) c.skip_zeros.ensures.within.0 c.skip_zeros.ensures.zeros (λ lt. c.skip_zeros.ensures.stops (omega (arith, long, lt))) in
    let shown : nat_lt c.skip_zeros.result (length ws + length fs) ≡ not (nat_eq (digits_value 10 (drop at (ws ++ fs))) 0) = rw long at rest in
    let more : nat_lt c.skip_zeros.result (length ws + length fs) ≡ has_fraction c.args.shift p = subst (λ (ds : List ℕ). nat_lt c.skip_zeros.result (length ws + length fs) ≡ not (nat_eq (digits_value 10 (drop at ds)) 0)) same shown in
    sym (fits c.args.shift p size _ (omega (arith, whole)) (omega arith) more)
