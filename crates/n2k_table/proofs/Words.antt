-- The eight digits of a number as the bytes of a word.
use Rattle.std.proofs.Common.{◌≡◌, ℕ, zero, suc, ◌+◌, ◌-◌, ◌*◌, ◌/◌, ◌%◌, ◌^◌, ◌<◌, ◌≤◌, List, [], ◌∷◌, ◌++◌, length, take, drop, replicate, refl, sym, ap, ◌∙◌, append_assoc, eq-zero-or-pos, arith, inl, inr, min, decimal}
use Rattle.std.specs.Int.{w64, to_le_bytes, trailing_zeros}
use Rattle.std.specs.Int.Count.{count_trailing_zeros, trailing_of_zero}
use Rattle.std.proofs.lemmas.Bool.{cases_lt}
use Rattle.std.proofs.lemmas.Nat.{shr-shr, div_below, mod-pow-add}
use Rattle.std.proofs.lemmas.Fmt.{decimal_digit, decimal_nonempty, decimal_step, length-decimal-le}
use Rattle.std.proofs.lemmas.List.{length-append, length-replicate, length-drop, take-take, take_all, drop-append-le, drop-replicate, drop-drop, drop-take}
use Rattle.n2k_table.specs.Decimal.{after_dot, padded_digits, dotted}
use Rattle.n2k_table.specs.Inner.Digits.{values_word}
use Rattle.n2k_table.proofs.Placed.{length_padded}

-- ---- the last k digits of a number, with z for `0`

abbrev last_of : ℕ → ℕ → ℕ → List ℕ
last_of z zero n = []
last_of z (suc k) n = last_of z k (n / 10) ++ (z + n % 10) ∷ []

more_of : (k z : ℕ) → replicate k z ++ (z ∷ []) ≡ replicate (suc k) z
more_of zero z = refl
more_of (suc k) z = ap (λ (t : List ℕ). z ∷ t) (more_of k z)

none_left : (z k : ℕ) → last_of z k 0 ≡ replicate k z
none_left z zero = refl
none_left z (suc k) = grind (arith, none_left z k, more_of)

length_digit : (n : ℕ) → n < 10 → length (decimal n) ≡ 1
length_digit n small = rw (decimal_digit n small) refl

length_step : (n : ℕ) → 10 ≤ n → n < 2 ^ 64 → length (decimal n) ≡ length (decimal (n / 10)) + 1
length_step n large fits = rw (decimal_step n large fits) (length-append (decimal (n / 10)) ((48 + n % 10) ∷ []))

-- a number without its last digit
tenth : (k n : ℕ) → n < 10 ^ suc k → n / 10 < 10 ^ k
tenth k n small = div_below n 10 (10 ^ k) (omega arith) (omega (arith, small))

one_left : (z k n : ℕ) → n < 10 → last_of z (suc k) n ≡ replicate (suc k - length (decimal n)) z ++ (z + n) ∷ []
one_left z k n digit = grind (arith, length_digit, none_left)

digit_is : (k n : ℕ) → n < 10 → last_of 48 (suc k) n ≡ replicate (suc k - length (decimal n)) 48 ++ decimal n
digit_is k n digit = one_left 48 k n digit ∙ ap (λ (t : List ℕ). replicate (suc k - length (decimal n)) 48 ++ t) (sym (decimal_digit n digit))

-- zeros stand before the digits of a number that has fewer
digits_are : (k n : ℕ) → n < 10 ^ suc k → n < 2 ^ 64 → last_of 48 (suc k) n ≡ replicate (suc k - length (decimal n)) 48 ++ decimal n
digits_are zero n small fits = digit_is zero n (omega (arith, small))
digits_are (suc k) n small fits =
    elim (cases_lt n 10) [
      | inl digit ↦ digit_is (suc k) n digit
      | inr large ↦
          (let count : suc (suc k) - length (decimal n) ≡ suc k - length (decimal (n / 10)) = omega (arith, length_step n large fits) in
          let before = digits_are k (n / 10) (tenth (suc k) n small) (omega (arith, fits)) in
          rw (count, decimal_step n large fits) (ap (λ (t : List ℕ). t ++ (48 + n % 10) ∷ []) before
          ∙ append_assoc (replicate (suc k - length (decimal (n / 10))) 48) (decimal (n / 10)) ((48 + n % 10) ∷ [])))
    ]

-- the first of them that is not zero
record Leads (k n : ℕ) : Type 0 where
  digit : ℕ
  rest : List ℕ
  is : last_of 0 k n ≡ replicate (k - length (decimal n)) 0 ++ digit ∷ rest
  some : 0 < digit
  few : digit < 10

leads : (k n : ℕ) → 0 < n → n < 10 ^ k → n < 2 ^ 64 → Leads k n
leads zero n some small fits = absurd (omega (arith, some, small))
leads (suc k) n some small fits =
    elim (cases_lt n 10) [
      | inl digit ↦ record { digit = 0 + n; rest = []; is = one_left 0 k n digit; some = omega (arith, some); few = omega (arith, digit) }
      | inr large ↦
          (let before = leads k (n / 10) (omega (arith, large)) (tenth k n small) (omega (arith, fits)) in
          let last : List ℕ = (0 + n % 10) ∷ [] in
          let zeros : List ℕ = replicate (k - length (decimal (n / 10))) 0 in
          let count : suc k - length (decimal n) ≡ k - length (decimal (n / 10)) = omega (arith, length_step n large fits) in
          let is : last_of 0 (suc k) n ≡ replicate (suc k - length (decimal n)) 0 ++ before.digit ∷ (before.rest ++ last) =
          rw count (ap (λ (t : List ℕ). t ++ last) before.is ∙ append_assoc zeros (before.digit ∷ before.rest) last) in
          record { digit = before.digit; rest = before.rest ++ last; is = is; some = before.some; few = before.few })
    ]

-- ---- what bytes make as a word, the first of them the lowest

abbrev word_of : List ℕ → ℕ
word_of [] = 0
word_of (b ∷ bs) = b + 256 * word_of bs

values_are : (n : ℕ) → n < 10 ^ 8 → word_of (last_of 0 8 n) ≡ values_word n
values_are n small = omega arith

-- a byte that is 0 has eight zeros
zero_bit : (k v : ℕ) → count_trailing_zeros (suc k) (2 * v) ≡ suc (count_trailing_zeros k v)
unfolding count_trailing_zeros
zero_bit k v = grind arith

zero_byte : (k v : ℕ) → count_trailing_zeros (8 + k) (256 * v) ≡ 8 + count_trailing_zeros k v
zero_byte k v =
    let a : 256 * v ≡ 2 * (2 * (2 * (2 * (2 * (2 * (2 * (2 * v))))))) = omega arith in
    let b : 8 + k ≡ suc (suc (suc (suc (suc (suc (suc (suc k))))))) = omega arith in
    rw (b, a, zero_bit, zero_bit, zero_bit, zero_bit, zero_bit, zero_bit, zero_bit, zero_bit) (omega arith)

-- and another has fewer
few_zeros : (j k x : ℕ) → 0 < x % 2 ^ j → count_trailing_zeros k x < j
unfolding count_trailing_zeros
few_zeros zero k x some = absurd (omega (arith, some))
few_zeros (suc j) zero x some = omega arith
few_zeros (suc j) (suc k) x some =
    elim (eq-zero-or-pos (x % 2)) [
      | inl even ↦
          (let same : suc j ≡ j + 1 = omega arith in
          let parts : x % 2 ^ suc j ≡ (x / 2 ^ 1 % 2 ^ j) * 2 ^ 1 + x % 2 ^ 1 = ap (λ i. x % 2 ^ i) same ∙ mod-pow-add x j 1 in
          let more = few_zeros j k (x / 2) (omega (arith, parts, some, even)) in
          rw even (omega (arith, more)))
      | inr odd ↦ (let is : x % 2 ≡ 1 = omega (arith, odd) in rw is (omega arith))
    ]

leading_zeros_of : (z m : ℕ) (bs : List ℕ) → count_trailing_zeros (8 * z + m) (word_of (replicate z 0 ++ bs)) ≡ 8 * z + count_trailing_zeros m (word_of bs)
leading_zeros_of zero m bs = grind arith
leading_zeros_of (suc z) m bs = grind (arith, leading_zeros_of z m bs, zero_byte (8 * z + m) (word_of (replicate z 0 ++ bs)))

-- ---- bytes of a word

-- eight bytes `0`
abbrev noughts : ℕ
noughts = 0x3030303030303030

eight_bytes : (n : ℕ) → n < 10 ^ 8 → to_le_bytes w64 (values_word n + noughts) ≡ last_of 48 8 n
eight_bytes n small = grind arith

-- a word without its lowest byte
one_step : (x : ℕ) → take 7 (to_le_bytes w64 (x / 2 ^ 8)) ≡ drop 1 (to_le_bytes w64 x)
one_step x = grind arith

-- and without its k lowest
shifted : (m k x : ℕ) → m + k ≤ 8 → take m (to_le_bytes w64 (x / 2 ^ (8 * k))) ≡ take m (drop k (to_le_bytes w64 x))
shifted m zero x few = (let same : x / 2 ^ (8 * 0) ≡ x = omega arith in ap (λ t. take m (to_le_bytes w64 t)) same)
shifted m (suc k) x few = grind (arith, shifted m k (x / 2 ^ 8) (omega (arith, few)), shr-shr x 8 (8 * k), take-take (k + m) 7 (to_le_bytes w64 (x / 2 ^ 8)) (omega (arith, few)), one_step x, drop-take k m (to_le_bytes w64 (x / 2 ^ 8)), drop-take k m (drop 1 (to_le_bytes w64 x)))

-- how many of the eight digits are zeros before the first that is none
zeros_before : (n : ℕ) → 0 < n → n < 10 ^ 8 → trailing_zeros w64 (values_word n) / 8 ≡ 8 - length (decimal n)
zeros_before n some small =
    let first = leads 8 n some small (omega (arith, small)) in
    let z = 8 - length (decimal n) in
    let d = first.digit in
    let v = word_of first.rest in
    let short : length (decimal n) ≤ 8 = length-decimal-le 8 n (omega arith) small (omega (arith, small)) in
    let long : 0 < length (decimal n) = decimal_nonempty n (omega (arith, small)) in
    let word : values_word n ≡ word_of (replicate z 0 ++ d ∷ first.rest) = sym (values_are n small) ∙ ap word_of first.is in
    let bits : 64 ≡ 8 * z + (64 - 8 * z) = omega (arith, long, short) in
    let low : (d + 256 * v) % 2 ^ 8 ≡ d = omega (arith, first.few) in
    let few : count_trailing_zeros (64 - 8 * z) (d + 256 * v) < 8 = few_zeros 8 (64 - 8 * z) (d + 256 * v) (omega (arith, low, first.some)) in
    let all : count_trailing_zeros 64 (values_word n) ≡ 8 * z + count_trailing_zeros (64 - 8 * z) (d + 256 * v) =
    ap (count_trailing_zeros 64) word ∙ ap (λ k. count_trailing_zeros k (word_of (replicate z 0 ++ d ∷ first.rest))) bits ∙ leading_zeros_of z (64 - 8 * z) (d ∷ first.rest) in
    omega (arith, all, few)

-- what is skipped precedes the digits, and what is left are as many zeros as the decimals ask for
abbrev AreSkipped : ℕ → ℕ → ℕ → Type 0
AreSkipped n e skipped = (skipped + length (decimal n) ≤ 8) × (8 - length (decimal n) - skipped ≡ e + 1 - length (decimal n))

are_skipped : (n e skipped : ℕ) → n < 10 ^ 8 → e < 8 → skipped ≡ min (trailing_zeros w64 (values_word n) / 8) (7 - e) → AreSkipped n e skipped
are_skipped n e skipped small short least =
    let few : length (decimal n) ≤ 8 = length-decimal-le 8 n (omega arith) small (omega (arith, small)) in
    elim (eq-zero-or-pos n) [
      | inl none ↦
          (let one : length (decimal n) ≡ 1 = length_digit n (omega (arith, none)) in
          let all : trailing_zeros w64 (values_word n) ≡ 64 = ap (λ k. trailing_zeros w64 (values_word k)) none ∙ trailing_of_zero 64 in
          (omega (arith, one, all, least, short), omega (arith, one, all, least, short)))
      | inr some ↦ (omega (arith, few, least, zeros_before n some small), omega (arith, few, short, least, zeros_before n some small))
    ]

-- what is stored of a word: the digits before the dot, and the digits after it
pub short_is : (n e skipped word : ℕ) (prefix back : List ℕ) → n < 10 ^ 8 → e < 8 → word ≡ values_word n
    → skipped ≡ min (trailing_zeros w64 word / 8) (7 - e)
    → prefix ≡ to_le_bytes w64 ((word + noughts) / 2 ^ (8 * skipped))
    → back ≡ to_le_bytes w64 ((word + noughts) / 2 ^ (8 * skipped) / 2 ^ (8 * (8 - e - skipped - 1)) / 2 ^ 8)
    → take (8 - e - skipped) prefix ++ after_dot (take e back) ≡ dotted e (padded_digits n e)
short_is n e skipped word prefix back small short is least f b =
    let all = word + noughts in
    let digits = to_le_bytes w64 all in
    let whole = 8 - e - skipped in
    let ds = padded_digits n e in
    let skips = are_skipped n e skipped small short (rw is at least) in
    let many : 0 < length (decimal n) = decimal_nonempty n (omega (arith, small)) in
    let eight : digits ≡ replicate (8 - length (decimal n)) 48 ++ decimal n = rw is (eight_bytes n small ∙ digits_are 7 n small (omega (arith, small))) in
    let left : drop skipped digits ≡ ds =
    ap (drop skipped) eight ∙ drop-append-le skipped (replicate (8 - length (decimal n)) 48) (decimal n) (omega (arith, length-replicate {A = ℕ} (8 - length (decimal n)) 48, skips.0))
    ∙ ap (λ (t : List ℕ). t ++ decimal n) (drop-replicate skipped (8 - length (decimal n)) 48) ∙ ap (λ k. replicate k 48 ++ decimal n) skips.1 in
    let count : length ds ≡ whole + e = omega (arith, length_padded n e, skips.0, skips.1, short, many) in
    let place : length ds - e ≡ whole = omega (arith, count) in
    let begins : take whole prefix ≡ take whole ds = ap (take whole) f ∙ shifted whole skipped all (omega (arith, skips.0, skips.1, many)) ∙ ap (take whole) left in
    let steps : 8 * (whole - 1) + 8 ≡ 8 * whole = omega (arith, skips.0, skips.1, many, short) in
    let both : 8 * skipped + 8 * whole ≡ 8 * (skipped + whole) = omega arith in
    let twice : all / 2 ^ (8 * skipped) / 2 ^ (8 * (whole - 1)) / 2 ^ 8 ≡ all / 2 ^ (8 * (skipped + whole)) =
    shr-shr (all / 2 ^ (8 * skipped)) (8 * (whole - 1)) 8 ∙ ap (λ k. all / 2 ^ (8 * skipped) / 2 ^ k) steps ∙ shr-shr all (8 * skipped) (8 * whole) ∙ ap (λ k. all / 2 ^ k) both in
    let after : drop (skipped + whole) digits ≡ drop whole ds = sym (drop-drop whole skipped digits) ∙ ap (drop whole) left in
    let ends : take e back ≡ drop whole ds =
    ap (take e) (b ∙ ap (to_le_bytes w64) twice) ∙ shifted e (skipped + whole) all (omega (arith, skips.0, skips.1, many, short))
    ∙ ap (take e) after ∙ take_all e (drop whole ds) (omega (arith, length-drop whole ds, count)) in
    rw (begins, ends, place) refl
