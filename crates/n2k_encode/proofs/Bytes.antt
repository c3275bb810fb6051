-- Bits that are set byte by byte.
use Rattle.std.proofs.Common.{◌≡◌, ◌≢◌, ℕ, zero, suc, ◌+◌, ◌-◌, ◌*◌, ◌/◌, ◌%◌, ◌^◌, ◌==◌, ◌<◌, ◌≤◌, min, max, bit_and, bit_or, w8, Bool, true, false, List, length, slice_index, slice_set, refl, sym, ap, ◌∙◌, arith, inl, inr, shr-shr}
use Rattle.std.specs.Int.{bit_at}
use Rattle.std.proofs.lemmas.Bool.{cases_lt}
use Rattle.std.proofs.lemmas.List.{get_or-set_same, length-set, set-get_or, set-set}
use Rattle.std.proofs.lemmas.Nat.{and_le_l, and_le_r, and_mask, or_of_8, shl_whole, pow_pos, pow_below}
use Rattle.std.proofs.lemmas.Nat.Bits.{bit_at_and, bit_at_or, bit_at_not, bit_at-lt, bit_at-zero, bit_at-pow_same, bit_at-pow_other, bit_at_ones, bit_at_ones_above, bit_at_cat_low, bit_at_cat_high, ones_shr, same_from_bits_below}
use Rattle.n2k_table.specs.Bits.{has_bit}
use Rattle.n2k_encode.specs.Place.{with_bit, set_bit, put_bits, with_bits}

-- the bits of a raw value from bit j on, after those before it
pub put_more : (payload : List ℕ) (a j m r : ℕ) → put_bits (put_bits payload a j r) (a + j) m (r / 2 ^ j) ≡ put_bits payload a (j + m) r
put_more payload a j zero r =
    let same : j ≡ j + 0 = omega arith in
    ap (λ k. put_bits payload a k r) same
put_more payload a j (suc m) r =
    let next : suc (j + m) ≡ j + suc m = omega arith in
    let place : a + j + m ≡ a + (j + m) = omega arith in
    let one : has_bit (r / 2 ^ j) m ≡ has_bit r (j + m) = ap (λ x. x % 2 == 1) (shr-shr r j m) in
    ap (λ (bs : List ℕ). set_bit bs (a + j + m) (has_bit (r / 2 ^ j) m)) (put_more payload a j m r)
    ∙ ap (λ i. set_bit (put_bits payload a (j + m) r) i (has_bit (r / 2 ^ j) m)) place
    ∙ ap (λ (b : Bool). set_bit (put_bits payload a (j + m) r) (a + (j + m)) b) one
    ∙ ap (λ k. put_bits payload a k r) next

-- one more bit of a byte
bit_more : (payload : List ℕ) (p k i byte : ℕ) (one : Bool) → p / 8 ≡ k → p % 8 ≡ i → k < length payload
    → set_bit (slice_set payload k byte) p one ≡ slice_set payload k (with_bit byte i one)
bit_more payload p k i byte one at in_it has = rw (at, in_it) (grind (arith, has, length-set, get_or-set_same, set-set))

-- bits of one byte
pub in_byte : (payload : List ℕ) (a n r : ℕ) → a % 8 + n ≤ 8 → a / 8 < length payload
    → put_bits payload a n r ≡ slice_set payload (a / 8) (with_bits (slice_index payload (a / 8)) (a % 8) n r)
in_byte payload a zero r inside has = grind (arith, set-get_or, has)
in_byte payload a (suc j) r inside has =
    let same : (a + j) / 8 ≡ a / 8 = omega (arith, inside) in
    let next : (a + j) % 8 ≡ a % 8 + j = omega (arith, inside) in
    ap (λ (bs : List ℕ). set_bit bs (a + j) (has_bit r j)) (in_byte payload a j r (omega (arith, inside)) has)
    ∙ bit_more payload (a + j) (a / 8) (a % 8 + j) (with_bits (slice_index payload (a / 8)) (a % 8) j r) (has_bit r j) same next has

pub past_byte : (payload : List ℕ) (a n r : ℕ) → length payload ≤ a / 8 → put_bits payload a n r ≡ payload
past_byte payload a zero r far = refl
past_byte payload a (suc j) r far = grind (arith, past_byte payload a j r far, far)

pub ruleset byte_rules = (in_byte, past_byte)

-- the bits of a byte in which bit p is set or cleared
abbrev bit_is : Bool → ℕ
bit_is true = 1
bit_is false = 0

same_bit : (x p : ℕ) (one : Bool) → p < 8 → bit_at (with_bit x p one) p ≡ bit_is one
same_bit x p true low = omega (arith, bit_at_or x (2 ^ p) p, bit_at-pow_same p, bit_at-lt x p)
same_bit x p false low =
    let clear : bit_at (255 - 2 ^ p) p ≡ 1 - bit_at (2 ^ p) p = bit_at_not w8 (2 ^ p) p (pow_below p 8 low) low in
    omega (arith, bit_at_and x (255 - 2 ^ p) p, clear, bit_at-pow_same p)

other_bit : (x p k : ℕ) (one : Bool) → p < 8 → k < 8 → k ≢ p → bit_at (with_bit x p one) k ≡ bit_at x k
other_bit x p k true low small apart = omega (arith, bit_at_or x (2 ^ p) k, bit_at-pow_other p k apart)
other_bit x p k false low small apart =
    let clear : bit_at (255 - 2 ^ p) k ≡ 1 - bit_at (2 ^ p) k = bit_at_not w8 (2 ^ p) k (pow_below p 8 low) small in
    omega (arith, bit_at_and x (255 - 2 ^ p) k, clear, bit_at-pow_other p k apart, bit_at-lt x k)

still_byte : (x p : ℕ) (one : Bool) → x < 256 → p < 8 → with_bit x p one < 256
still_byte x p true small low = or_of_8 x (2 ^ p) small (pow_below p 8 low)
still_byte x p false small low = omega (arith, and_le_l x (255 - 2 ^ p), small)

still_bytes : (b i n r : ℕ) → b < 256 → i + n ≤ 8 → with_bits b i n r < 256
still_bytes b i zero r small inside = small
still_bytes b i (suc j) r small inside = still_byte (with_bits b i j r) (i + j) (has_bit r j) (still_bytes b i j r small (omega (arith, inside))) (omega (arith, inside))

is_digit : (d : ℕ) → d < 2 → bit_is (d == 1) ≡ d
is_digit zero few = refl
is_digit (suc zero) few = refl
is_digit (suc (suc d)) few = absurd (omega (arith, few))

new_bit : (b i n r k : ℕ) → i + n ≤ 8 → i ≤ k → k < i + n → bit_at (with_bits b i n r) k ≡ bit_at r (k - i)
new_bit b i zero r k inside from below = absurd (omega (arith, from, below))
new_bit b i (suc j) r k inside from below = elim (cases_lt k (i + j)) [
  | inl before ↦
      other_bit (with_bits b i j r) (i + j) k (has_bit r j) (omega (arith, inside)) (omega (arith, inside, before)) (λ e. omega (arith, e, before))
      ∙ new_bit b i j r k (omega (arith, inside)) from before
  | inr after ↦
      let here : k ≡ i + j = omega (arith, below, after) in
      let place : j ≡ k - i = omega (arith, here) in
      ap (bit_at (with_bits b i (suc j) r)) here ∙ same_bit (with_bits b i j r) (i + j) (has_bit r j) (omega (arith, inside))
      ∙ is_digit (bit_at r j) (bit_at-lt r j) ∙ ap (bit_at r) place
]

old_bit : (b i n r k : ℕ) → i + n ≤ 8 → k < 8 → (i ≤ k → k < i + n → ⊥) → bit_at (with_bits b i n r) k ≡ bit_at b k
old_bit b i zero r k inside small out = refl
old_bit b i (suc j) r k inside small out =
    other_bit (with_bits b i j r) (i + j) k (has_bit r j) (omega (arith, inside)) small (λ e. out (omega (arith, e)) (omega (arith, e)))
    ∙ old_bit b i j r k (omega (arith, inside)) small (λ from below. out from (omega (arith, below)))

-- the lowest bits of a byte, as the code has them
low_bit : (x k : ℕ) → k < 8 → bit_at (x % 256) k ≡ bit_at x k
low_bit x k small =
    let one : bit_at 255 k ≡ 1 = bit_at_ones 8 k small in
    let masked : bit_and x 255 ≡ x % 256 = and_mask x 8 in
    ap (λ y. bit_at y k) (sym masked) ∙ omega (arith, bit_at_and x 255 k, one, bit_at-lt x k)

plus_zero : (x : ℕ) → x ≡ x + 0
plus_zero x = omega arith

moved_bit : (r i k : ℕ) → i ≤ k → k < 8 → bit_at (r % 256 * 2 ^ i % 256) k ≡ bit_at r (k - i)
moved_bit r i k from small =
    low_bit (r % 256 * 2 ^ i) k small ∙ ap (λ x. bit_at x k) (plus_zero (r % 256 * 2 ^ i))
    ∙ bit_at_cat_high (r % 256) i 0 k (pow_pos i) from ∙ low_bit r (k - i) (omega (arith, small))

mask_is : (i n : ℕ) → i + n ≤ 8 → 255 / 2 ^ (8 - n) * 2 ^ i % 256 ≡ (2 ^ n - 1) * 2 ^ i + 0
mask_is i n inside =
    let back : 8 - (8 - n) ≡ n = omega (arith, inside) in
    let ones : 255 / 2 ^ (8 - n) ≡ 2 ^ n - 1 = ones_shr 8 (8 - n) (omega arith) ∙ ap (λ m. 2 ^ m - 1) back in
    let whole : (2 ^ n - 1) * 2 ^ i % 256 ≡ (2 ^ n - 1) * 2 ^ i = shl_whole (2 ^ n - 1) n i 8 (omega (arith, pow_pos n)) (omega (arith, inside)) in
    ap (λ m. m * 2 ^ i % 256) ones ∙ whole ∙ plus_zero ((2 ^ n - 1) * 2 ^ i)

-- two bytes put together under a mask
both_bits : (b s mask k : ℕ) → mask < 256 → k < 8
    → bit_at (bit_or (bit_and b (255 - mask)) (bit_and s mask)) k ≡ max (min (bit_at b k) (1 - bit_at mask k)) (min (bit_at s k) (bit_at mask k))
both_bits b s mask k small low =
    let clear : bit_at (255 - mask) k ≡ 1 - bit_at mask k = bit_at_not w8 mask k small low in
    omega (arith, bit_at_or (bit_and b (255 - mask)) (bit_and s mask) k, bit_at_and b (255 - mask) k, bit_at_and s mask k, clear)

pub byte_set : (b i n r : ℕ) → b < 256 → i + n ≤ 8
    → bit_or (bit_and b (255 - 255 / 2 ^ (8 - n) * 2 ^ i % 256)) (bit_and (r % 256 * 2 ^ i % 256) (255 / 2 ^ (8 - n) * 2 ^ i % 256)) ≡ with_bits b i n r
byte_set b i n r small inside =
    let mask = 255 / 2 ^ (8 - n) * 2 ^ i % 256 in
    let moved = r % 256 * 2 ^ i % 256 in
    let fits : mask < 256 = omega arith in
    let is = mask_is i n inside in
    let kept = bit_and b (255 - mask) in
    let added = bit_and moved mask in
    let below : bit_or kept added < 256 = or_of_8 kept added (omega (arith, and_le_l b (255 - mask), small)) (omega (arith, and_le_r moved mask, fits)) in
    same_from_bits_below 8 (bit_or kept added) (with_bits b i n r) below (still_bytes b i n r small inside) (λ k low. both_bits b moved mask k fits low ∙ elim (cases_lt k i) [
      | inl before ↦
          let none : bit_at mask k ≡ 0 = ap (λ x. bit_at x k) is ∙ bit_at_cat_low (2 ^ n - 1) i 0 k before ∙ bit_at-zero k in
          omega (arith, none, bit_at-lt b k, old_bit b i n r k inside low (λ from under. omega (arith, from, before)))
      | inr from ↦ elim (cases_lt k (i + n)) [
        | inl under ↦
            let one : bit_at mask k ≡ 1 = ap (λ x. bit_at x k) is ∙ bit_at_cat_high (2 ^ n - 1) i 0 k (pow_pos i) from ∙ bit_at_ones n (k - i) (omega (arith, under, from)) in
            omega (arith, one, bit_at-lt moved k, moved_bit r i k from low, new_bit b i n r k inside from under)
        | inr above ↦
            let none : bit_at mask k ≡ 0 = ap (λ x. bit_at x k) is ∙ bit_at_cat_high (2 ^ n - 1) i 0 k (pow_pos i) from ∙ bit_at_ones_above n (k - i) (omega (arith, above)) in
            omega (arith, none, bit_at-lt b k, old_bit b i n r k inside low (λ f under. omega (arith, under, above)))
      ]
    ])
