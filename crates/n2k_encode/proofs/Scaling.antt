-- The whole part of a number times a power of ten, as the code finds it: no greater than a limit.
use Rattle.std.proofs.Common.{◌≡◌, ℕ, suc, ◌+◌, ◌-◌, ◌*◌, ◌%◌, ◌^◌, ◌<◌, ◌≤◌, ◌⊎◌, min, nat_eq, ltb, not, Bool, List, length, take, drop, take_all, get_or, Some, None, inl, inr, arith, lit<, lit≤, refl, sym, ap, ◌∙◌, mul-le-mul_left, mul-le-mul_right, pow-suc}
use Rattle.std.specs.Str.Parse.{AllDigits, digits_value}
use Rattle.std.specs.Char.{digit_value}
use Rattle.std.proofs.lemmas.Bool.{cases_lt}
use Rattle.std.proofs.lemmas.List.{drop_all}
use Rattle.core.proofs.dec2flt.ExactLemmas.{ten_to_pos}
use Rattle.core.proofs.dec2flt.Rows.{rest_some, rest_zero, short_fits}
use Rattle.fast_float.specs.Text.{Parts}
use Rattle.n2k_encode.specs.Numeral.{whole_part, has_fraction, scaled}
use native.Mathlib.Nat.{pow-le-pow_right, zero-mul, mul_left_comm}

-- a power of ten makes nothing smaller
times_ten_grows : (v z : ℕ) → v ≤ v * 10 ^ z
times_ten_grows v z = omega (arith, mul-le-mul_left v (ten_to_pos z))

-- the limit may be taken before the zeros too
pub capped_first : (v m z limit : ℕ) → m ≡ min v limit → min (m * 10 ^ z) limit ≡ min (v * 10 ^ z) limit
capped_first v m z limit e =
    elim (cases_lt v limit) [
      | inl small ↦
          let same : m ≡ v = omega (arith, e) in
          rw same refl
      | inr large ↦
          let top : m ≡ limit = omega (arith, e) in
          rw top (omega (arith, times_ten_grows v z, times_ten_grows limit z))
    ]

-- one zero more, with the limit taken before and after
pub one_zero_more : (n z value limit : ℕ) → value ≡ min (n * 10 ^ z) limit → min (value * 10) limit ≡ min (n * 10 ^ (z + 1)) limit
one_zero_more n z value limit e =
    let next : z + 1 ≡ suc z = omega arith in
    let power : 10 ^ suc z ≡ 10 * 10 ^ z = grind (arith, pow-suc) in
    let product : n * 10 ^ suc z ≡ 10 * (n * 10 ^ z) = ap (λ x. n * x) power ∙ mul_left_comm n 10 (10 ^ z) in
    rw next (omega (arith, e, product))

huge : (v z : ℕ) → 1 ≤ v → 31 ≤ z → 2 ^ 100 ≤ v * 10 ^ z
huge v z some many =
    let power : 10 ^ 31 ≤ 10 ^ z = pow-le-pow_right (lit< tt) {i = 31} many in
    let product : 1 * 10 ^ z ≤ v * 10 ^ z = mul-le-mul_right (10 ^ z) some in
    omega (arith, power, product, let big : 2 ^ 100 ≤ 10 ^ 31 = lit≤ tt in big)

-- more than 31 zeros are as good as 31
pub zeros_capped : (v z y : ℕ) → y ≡ min z 31 → min (v * 10 ^ y) (2 ^ 100) ≡ min (v * 10 ^ z) (2 ^ 100)
zeros_capped v z y e =
    elim (cases_lt z 31) [
      | inl few ↦
          let same : y ≡ z = omega (arith, e) in
          rw same refl
      | inr many ↦
          elim (cases_lt 0 v) [
            | inl some ↦ omega (arith, huge v z some many, huge v y some (omega (arith, e)))
            | inr none ↦
                let is : v ≡ 0 = omega (arith, none) in
                rw (is, zero-mul (10 ^ y), zero-mul (10 ^ z)) refl
          ]
    ]

-- the digits before a point past the last are all
pub kept_digits : (ds : List ℕ) (p kept : ℕ) → kept ≡ min p (length ds) → take kept ds ≡ take p ds
kept_digits ds p kept e =
    elim (cases_lt p (length ds)) [
      | inl inside ↦ ap (λ n. take n ds) (let same : kept ≡ p = omega (arith, e) in same)
      | inr past ↦ take_all kept ds (omega (arith, e)) ∙ sym (take_all p ds past)
    ]

kept_rest : (ds : List ℕ) (p kept : ℕ) → kept ≡ min p (length ds) → drop kept ds ≡ drop p ds
kept_rest ds p kept e =
    elim (cases_lt p (length ds)) [
      | inl inside ↦ ap (λ n. drop n ds) (let same : kept ≡ p = omega (arith, e) in same)
      | inr past ↦ drop_all kept ds (omega (arith, e)) ∙ sym (drop_all p ds past)
    ]

-- the number that all digits make, if 64 bits can hold it
pub all_kept : (ds : List ℕ) (count : ℕ) → AllDigits 10 ds → length ds ≤ count → length ds ≤ 19 → digits_value 10 ds % 2 ^ 64 ≡ min (digits_value 10 (take count ds)) (2 ^ 100)
all_kept ds count digits whole few =
    let all : take count ds ≡ ds = take_all count ds whole in
    let fits : digits_value 10 ds < 2 ^ 64 = short_fits ds digits few in
    rw all (omega (arith, fits))

-- The point as the code has it: exactly, or far past the end of any text, whose digits before the point are so many.
abbrev pub IsPoint : ℕ → ℕ → ℕ → Type 0
IsPoint w pt p = (pt ≡ p) ⊎ ((w + (2 ^ 64 - 1) ≤ pt) × (w + (2 ^ 64 - 1) ≤ p))

kept_is : (ds : List ℕ) (w p pt kept : ℕ) → length ds < w + 2 ^ 63 → IsPoint w pt p → kept ≡ min pt (length ds) → kept ≡ min p (length ds)
kept_is ds w p pt kept short at e = elim at [ inl same ↦ omega (arith, same, e) | inr far ↦ omega (arith, far.0, far.1, short, e) ]

zeros_is : (ds : List ℕ) (w p pt y : ℕ) → length ds < w + 2 ^ 63 → IsPoint w pt p → y ≡ min (pt - length ds) 31 → y ≡ min (p - length ds) 31
zeros_is ds w p pt y short at e = elim at [ inl same ↦ omega (arith, same, e) | inr far ↦ omega (arith, far.0, far.1, short, e) ]

-- the whole part, or the limit if it is greater
pub whole_found : (ds : List ℕ) (w p pt kept zeros prefix size : ℕ) → length ds < w + 2 ^ 63 → IsPoint w pt p → kept ≡ min pt (length ds) → zeros ≡ min (pt - length ds) 31
    → prefix ≡ min (digits_value 10 (take kept ds)) (2 ^ 100) → size ≡ min (prefix * 10 ^ zeros) (2 ^ 100)
    → size ≡ min (digits_value 10 (take p ds) * 10 ^ (p - length ds)) (2 ^ 100)
whole_found ds w p pt kept zeros prefix size short at kept_e zeros_e prefix_e size_e =
    let v = digits_value 10 (take p ds) in
    let digits : take kept ds ≡ take p ds = kept_digits ds p kept (kept_is ds w p pt kept short at kept_e) in
    let prefix_is : prefix ≡ min v (2 ^ 100) = prefix_e ∙ ap (λ xs. min (digits_value 10 xs) (2 ^ 100)) digits in
    size_e ∙ capped_first v prefix zeros (2 ^ 100) prefix_is ∙ zeros_capped v (p - length ds) zeros (zeros_is ds w p pt zeros short at zeros_e)

-- a digit that is not 0 is left
pub rest_found : (ds : List ℕ) (w p pt kept s : ℕ) → length ds < w + 2 ^ 63 → IsPoint w pt p → kept ≡ min pt (length ds) → kept ≤ s
    → digits_value 10 (take (s - kept) (drop kept ds)) ≡ 0 → (s < length ds → 0 < digit_value (get_or ds s 0))
    → ltb s (length ds) ≡ not (nat_eq (digits_value 10 (drop p ds)) 0)
rest_found ds w p pt kept s short at kept_e from zeros stops =
    let same : drop kept ds ≡ drop p ds = kept_rest ds p kept (kept_is ds w p pt kept short at kept_e) in
    elim (cases_lt s (length ds)) [
      | inl inside ↦
          let some : 0 < digits_value 10 (drop p ds) = rw same at (rest_some ds kept s from inside (stops inside)) in
          grind (arith, some, inside)
      | inr past ↦
          let none : digits_value 10 (drop p ds) ≡ 0 = rw same at (rest_zero ds kept s past zeros) in
          grind (arith, none, past)
    ]

pub too_great : (k : ℕ) (p : Parts) → 2 ^ 100 ≤ whole_part k p → scaled k p ≡ None
unfolding scaled
too_great k p large = grind (arith, large)

pub fits : (k : ℕ) (p : Parts) (size : ℕ) (more : Bool) → size ≡ whole_part k p → size < 2 ^ 100 → more ≡ has_fraction k p → scaled k p ≡ Some (record { size = size; more = more })
unfolding scaled
fits k p size more size_e small more_e = grind (arith, size_e, small, more_e)
