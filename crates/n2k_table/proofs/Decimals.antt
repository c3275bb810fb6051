-- The decimal text of x / 10 ^ e is one text, and no other is.
use Rattle.std.proofs.Common.{◌≡◌, ◌≢◌, ℕ, zero, suc, ◌+◌, ◌-◌, ◌*◌, ◌%◌, ◌^◌, ◌<◌, ◌≤◌, ℤ, List, [], ◌∷◌, ◌++◌, length, get_or, replicate, refl, sym, ap, ◌∙◌, append_assoc, arith, lit<, decimal, unsigned_abs, FitsSigned}
use Rattle.std.specs.Int.{w128}
use Rattle.std.proofs.lemmas.Int.{ints}
use Rattle.std.specs.Char.{digit_value}
use Rattle.std.specs.Str.Parse.{AllDigits, digits_value, digits_value_after}
use Rattle.std.proofs.Math.Nat.{pow-suc, pow-le-pow_right, mul-le-mul_left}
use Rattle.std.proofs.lemmas.Fmt.{decimal_is_IsNumeral_wide, decimal_by_steps_wide}
use Rattle.std.proofs.lemmas.Int.Digits.{digits_value-lt}
use Rattle.std.proofs.lemmas.List.{length-append, length-replicate, length-take, length-drop, take-append-drop, take_at, drop_at, get_or_append_left, get_or-take}
use Rattle.n2k_table.specs.Decimal.{sign_of, IsDecimal, padded_digits, dotted, dec}
use Rattle.n2k_table.specs.Inner.Digits.{zero_filled}
use Rattle.n2k_table.proofs.Digits.{digits_value_after-append}

-- digits of n, at least e + 1 of them, and if there are more, the first is not a zero
record IsPadded (e n : ℕ) (ds : List ℕ) : Type 0 where
  digits : AllDigits 10 ds
  long : e + 1 ≤ length ds
  lead : e + 1 < length ds → get_or ds 0 0 ≢ 48
  value : digits_value 10 ds ≡ n

-- a digit from its value
digit_is : (c : ℕ) → digit_value c < 10 → c ≡ 48 + digit_value c
digit_is c below = grind arith

-- as many digits of one number are the same
same_after : (m n : ℕ) (xs ys : List ℕ) → length xs ≡ length ys → AllDigits 10 xs → AllDigits 10 ys
    → digits_value_after 10 m xs ≡ digits_value_after 10 n ys → (m ≡ n) × (xs ≡ ys)
same_after m n [] [] len dx dy e = (e, refl)
same_after m n [] (y ∷ ys) len dx dy e = absurd (omega arith)
same_after m n (x ∷ xs) [] len dx dy e = absurd (omega arith)
same_after m n (x ∷ xs) (y ∷ ys) len dx dy e =
    let tail : length xs ≡ length ys = omega arith in
    let p = same_after (m * 10 + digit_value x) (n * 10 + digit_value y) xs ys tail dx.1 dy.1 e in
    let bound_x : digit_value x < 10 = dx.0 in
    let bound_y : digit_value y < 10 = dy.0 in
    let heads : m * 10 + digit_value x ≡ n * 10 + digit_value y = p.0 in
    let before : m ≡ n = omega arith in
    let here : digit_value x ≡ digit_value y = omega arith in
    let x_is = digit_is x bound_x in
    let y_is = digit_is y bound_y in
    let same : x ≡ y = omega arith in
    (before, rw (same, p.1) refl)

-- digits after a number make at least that number with as many zeros
shifted_le : (n : ℕ) (ds : List ℕ) → n * 10 ^ length ds ≤ digits_value_after 10 n ds
shifted_le n [] = omega arith
shifted_le n (d ∷ ds) =
    let power : 10 ^ suc (length ds) ≡ 10 * 10 ^ length ds = grind (arith, pow-suc) in
    let more : n * 10 ≤ n * 10 + digit_value d = omega arith in
    let grown = mul-le-mul_left (10 ^ length ds) more in
    let rest = shifted_le (n * 10 + digit_value d) ds in
    rw power (omega (arith, grown, rest))

-- so many digits, the first of them not a zero, make at least that power of ten
leading_le : (ds : List ℕ) → AllDigits 10 ds → get_or ds 0 0 ≢ 48 → 0 < length ds → 10 ^ (length ds - 1) ≤ digits_value 10 ds
leading_le [] all lead some = absurd (omega arith)
leading_le (d ∷ ds) all lead some =
    let below : digit_value d < 10 = all.0 in
    let is = digit_is d below in
    let one : 1 ≤ 0 * 10 + digit_value d = omega (arith, lead) in
    let grown = mul-le-mul_left (10 ^ length ds) one in
    let rest = shifted_le (0 * 10 + digit_value d) ds in
    let n_is : suc (length ds) - 1 ≡ length ds = omega arith in
    rw n_is (omega (arith, grown, rest))

-- fewer digits make less
not_shorter : (e n : ℕ) (xs ys : List ℕ) → IsPadded e n xs → IsPadded e n ys → length ys ≤ length xs
not_shorter e n xs ys px py = grind (arith, leading_le, digits_value-lt, pow-le-pow_right)

padded_unique : (e n : ℕ) (xs ys : List ℕ) → IsPadded e n xs → IsPadded e n ys → xs ≡ ys
padded_unique e n xs ys px py =
    let a = not_shorter e n xs ys px py in
    let b = not_shorter e n ys xs py px in
    (same_after 0 0 xs ys (omega arith) px.digits py.digits (px.value ∙ sym py.value)).1

AllDigits-append : (xs ys : List ℕ) → AllDigits 10 xs → AllDigits 10 ys → AllDigits 10 (xs ++ ys)
AllDigits-append [] ys dx dy = dy
AllDigits-append (x ∷ xs) ys dx dy = (dx.0, AllDigits-append xs ys dx.1 dy)

AllDigits-zeros : (k : ℕ) → AllDigits 10 (replicate k 48)
AllDigits-zeros zero = tt
AllDigits-zeros (suc k) = (lit< tt, AllDigits-zeros k)

value_of_zeros : (k : ℕ) → digits_value_after 10 0 (replicate k 48) ≡ 0
value_of_zeros zero = refl
value_of_zeros (suc k) = value_of_zeros k

-- the first digit of a number that is not 0, and a number of more than one digit
record HasFirst (n : ℕ) (ds : List ℕ) : Type 0 where
  some : 0 < length ds
  first : 0 < n → 48 < get_or ds 0 0
  large : 1 < length ds → 0 < n

has_first : (n : ℕ) → n < 10 ^ 64 → HasFirst n (decimal n)
has_first = decimal_by_steps_wide HasFirst
    (λ n small. record { some = omega arith; first = λ pos. omega arith; large = λ long. absurd (omega arith) })
    (λ n ds big h. record {
      some = omega (arith, length-append ds ((48 + n % 10) ∷ []));
      first = λ pos. rw (get_or_append_left ds ((48 + n % 10) ∷ []) 0 0 h.some) (h.first (omega arith));
      large = λ long. omega arith;
    })

padded_is : (n e : ℕ) → n < 10 ^ 64 → IsPadded e n (padded_digits n e)
padded_is n e small =
    let zeros = e + 1 - length (decimal n) in
    let number = decimal_is_IsNumeral_wide n small in
    let first = has_first n small in
    let len : length (padded_digits n e) ≡ zeros + length (decimal n) = length-append (replicate zeros 48) (decimal n) ∙ ap (λ k. k + length (decimal n)) (length-replicate zeros 48) in
    record {
      digits = AllDigits-append (replicate zeros 48) (decimal n) (AllDigits-zeros zeros) number.0.1;
      long = omega arith;
      lead = grind arith;
      value = grind (arith, digits_value_after-append, value_of_zeros);
    }

-- the text is one
pub dec_is_decimal : (x : ℤ) (e : ℕ) → unsigned_abs x < 10 ^ 64 → IsDecimal x e (dec x e)
unfolding dec
dec_is_decimal x e small = grind (arith, padded_is, take-append-drop, length-take, length-drop, get_or-take)

-- the digits of such a text, without the dot
decimal_is_padded : (x : ℤ) (e : ℕ) (text : List ℕ) (t : IsDecimal x e text) → IsPadded e (unsigned_abs x) (t.whole ++ t.decimals)
decimal_is_padded x e text t = grind (arith, length-append, get_or_append_left)

-- no other text is one
pub dec_only : (x : ℤ) (e : ℕ) → unsigned_abs x < 10 ^ 64 → (text : List ℕ) → IsDecimal x e text → text ≡ dec x e
unfolding dec
dec_only x e small text t = grind (arith, padded_unique e (unsigned_abs x) (t.whole ++ t.decimals) (padded_digits (unsigned_abs x) e) (decimal_is_padded x e text t) (padded_is (unsigned_abs x) e small), length-append t.whole t.decimals, take_at, drop_at)

-- the size of a number of 128 bits
pub size_lt : (x : ℤ) → FitsSigned w128 x → unsigned_abs x < 10 ^ 64
size_lt x fits = omega (arith, ints, fits)

-- a zero before e digits
dotted_after : (e : ℕ) (ds : List ℕ) → length ds ≡ e → 0 < e → dotted e (48 ∷ ds) ≡ 48 ∷ 46 ∷ ds
dotted_after e [] len some = absurd (omega arith)
dotted_after e (d ∷ ds) len some = grind arith

-- and digits that are not
pub zero_filled_padded : (n e : ℕ) → n < 10 ^ 64 → length (decimal n) ≤ e → zero_filled e (decimal n) ≡ dotted e (padded_digits n e)
zero_filled_padded n e small less =
    let ds = decimal n in
    let some = (has_first n small).some in
    let zeros : e + 1 - length ds ≡ suc (e - length ds) = omega arith in
    let len : length (replicate (e - length ds) 48 ++ ds) ≡ e = omega (arith, length-append (replicate (e - length ds) 48) ds, length-replicate {A = ℕ} (e - length ds) 48) in
    sym (ap (λ k. dotted e (replicate k 48 ++ ds)) zeros ∙ dotted_after e (replicate (e - length ds) 48 ++ ds) len (omega arith))

-- the sign and then the digits
pub onto : (x : ℤ) (e n : ℕ) (l0 l1 l2 : List ℕ) → n ≡ unsigned_abs x → l1 ≡ l0 ++ sign_of x → l2 ≡ l1 ++ dotted e (padded_digits n e) → l2 ≡ l0 ++ dec x e
unfolding dec
onto x e n l0 l1 l2 is sign rest = grind (arith, append_assoc)
