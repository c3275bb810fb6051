-- Raw values, a byte at a time and in parts.
use Rattle.std.proofs.Common.{◌≡◌, ℕ, zero, suc, ◌+◌, ◌-◌, ◌*◌, ◌/◌, ◌%◌, ◌^◌, ◌<◌, ◌≤◌, bit_and, ◌⊎◌, inl, inr, List, ◌++◌, length, replicate, slice_index, take, drop, refl, sym, ap, ◌∙◌, arith, lit<}
use Rattle.std.specs.Int.{w64, from_le_bytes}
use Rattle.std.proofs.lemmas.Bool.{cases_lt}
use Rattle.std.proofs.lemmas.List.{length-take, get_or-take, get_or-drop, get_or_append_left, get_or-append_right, get_or-replicate, get_or_past}
use Rattle.std.proofs.lemmas.Nat.{and_mask, pow-add, shr_high, mod_low}
use Rattle.std.proofs.Math.Nat.{pow-suc, mul-le-mul_left, pow-le-pow_right}
use Rattle.n2k_table.specs.Bits.{bit, raw}
use Rattle.n2k_table.specs.Inner.FirstWord.{HasFirstBits}

-- the bits from the lowest on
raw_low : (d : List ℕ) (a n : ℕ) → raw d a (suc n) ≡ bit d a + 2 * raw d (a + 1) n
unfolding raw
raw_low d a zero = omega (arith, ap (bit d) (let e : a + 0 ≡ a = omega arith in e))
raw_low d a (suc n) =
    let here : bit d (a + suc n) ≡ bit d (a + 1 + n) = ap (bit d) (let e : a + suc n ≡ a + 1 + n = omega arith in e) in
    let power : 2 ^ suc n ≡ 2 * 2 ^ n = grind (arith, pow-suc) in
    let top : bit d (a + suc n) * 2 ^ suc n ≡ 2 * (bit d (a + 1 + n) * 2 ^ n) = rw (here, power) (grind arith) in
    omega (arith, raw_low d a n, top)

-- n bits make less than 2 ^ n
pub raw_lt : (d : List ℕ) (a n : ℕ) → raw d a n < 2 ^ n
unfolding raw
raw_lt d a zero = omega arith
raw_lt d a (suc n) =
    let power : 2 ^ suc n ≡ 2 * 2 ^ n = grind (arith, pow-suc) in
    let one : bit d (a + n) ≤ 1 = omega arith in
    omega (arith, raw_lt d a n, mul-le-mul_left (2 ^ n) one)

-- a bit of a byte at whose first bit p lies
bit_of_byte : (d : List ℕ) (p j : ℕ) → j < 8 → p % 8 ≡ 0 → bit d (p + j) ≡ slice_index d (p / 8) / 2 ^ j % 2
bit_of_byte d p j lt aligned =
    let byte : (p + j) / 8 ≡ p / 8 = omega arith in
    let place : (p + j) % 8 ≡ j = omega arith in
    rw (byte, place)

low : (d : List ℕ) (a a' n k : ℕ) → n ≡ suc k → a' ≡ a + 1 → raw d a n ≡ bit d a + 2 * raw d a' k
low d a a' n k n_is a_is = rw (n_is, a_is) (raw_low d a k)

-- a byte is the sum of its bits
byte_is : (b : ℕ) → b < 256
    → b ≡ b / 1 % 2 + 2 * (b / 2 % 2 + 2 * (b / 4 % 2 + 2 * (b / 8 % 2 + 2 * (b / 16 % 2 + 2 * (b / 32 % 2 + 2 * (b / 64 % 2 + 2 * (b / 128 % 2)))))))
byte_is b small = omega arith

-- the eight bits of a byte, and those above them
pub raw_byte : (d : List ℕ) (p m : ℕ) → p % 8 ≡ 0 → slice_index d (p / 8) < 256 → raw d p (m + 8) ≡ slice_index d (p / 8) + 256 * raw d (p + 8) m
raw_byte d p m aligned small =
    let e0 = low d (p + 0) (p + 1) (m + 8) (m + 7) (omega arith) (omega arith) in
    let e1 = low d (p + 1) (p + 2) (m + 7) (m + 6) (omega arith) (omega arith) in
    let e2 = low d (p + 2) (p + 3) (m + 6) (m + 5) (omega arith) (omega arith) in
    let e3 = low d (p + 3) (p + 4) (m + 5) (m + 4) (omega arith) (omega arith) in
    let e4 = low d (p + 4) (p + 5) (m + 4) (m + 3) (omega arith) (omega arith) in
    let e5 = low d (p + 5) (p + 6) (m + 3) (m + 2) (omega arith) (omega arith) in
    let e6 = low d (p + 6) (p + 7) (m + 2) (m + 1) (omega arith) (omega arith) in
    let e7 = low d (p + 7) (p + 8) (m + 1) m (omega arith) (omega arith) in
    let b0 = bit_of_byte d p 0 (omega arith) aligned in
    let b1 = bit_of_byte d p 1 (omega arith) aligned in
    let b2 = bit_of_byte d p 2 (omega arith) aligned in
    let b3 = bit_of_byte d p 3 (omega arith) aligned in
    let b4 = bit_of_byte d p 4 (omega arith) aligned in
    let b5 = bit_of_byte d p 5 (omega arith) aligned in
    let b6 = bit_of_byte d p 6 (omega arith) aligned in
    let b7 = bit_of_byte d p 7 (omega arith) aligned in
    let whole = byte_is (slice_index d (p / 8)) small in
    let start : p + 0 ≡ p = omega arith in
    let first = ap (λ q. raw d q (m + 8)) start in
    omega (arith, e0, e1, e2, e3, e4, e5, e6, e7, b0, b1, b2, b3, b4, b5, b6, b7, whole, first)

-- 2 ^ n is twice the half
pub twice_half : (n : ℕ) → 1 ≤ n → 2 ^ n ≡ 2 * 2 ^ (n - 1)
twice_half zero some = absurd (omega arith)
twice_half (suc n) some =
    let n_is : suc n - 1 ≡ n = omega arith in
    rw n_is (grind (arith, pow-suc))

-- a bound on powers of two
pub pow_le : (m n : ℕ) → m ≤ n → 2 ^ m ≤ 2 ^ n
pow_le m n le = pow-le-pow_right (omega arith) le

-- bits in two parts, those above and those below
pub raw_split : (d : List ℕ) (a s n : ℕ) → raw d a (s + n) ≡ raw d (a + s) n * 2 ^ s + raw d a s
unfolding raw
raw_split d a s zero =
    let none : s + 0 ≡ s = omega arith in
    omega (arith, ap (raw d a) none)
raw_split d a s (suc n) =
    let more : s + suc n ≡ suc (s + n) = omega arith in
    let place : a + (s + n) ≡ a + s + n = omega arith in
    let top : bit d (a + (s + n)) * 2 ^ (s + n) ≡ bit d (a + s + n) * 2 ^ n * 2 ^ s = rw (place, pow-add 2 s n) (grind arith) in
    let spread : (raw d (a + s) n + bit d (a + s + n) * 2 ^ n) * 2 ^ s ≡ raw d (a + s) n * 2 ^ s + bit d (a + s + n) * 2 ^ n * 2 ^ s = grind arith in
    rw more (omega (arith, raw_split d a s n, top, spread))

-- bits out of more, by a shift and a remainder
pub raw_out_of : (d : List ℕ) (p s n whole : ℕ) → s + n ≤ whole → raw d p whole / 2 ^ s % 2 ^ n ≡ raw d (p + s) n
raw_out_of d p s n whole within =
    let m = whole - (s + n) in
    let count : whole ≡ s + (n + m) = omega arith in
    let low = raw d p s in
    let here = raw d (p + s) n in
    let high = raw d (p + s + n) m in
    let parts : raw d p whole ≡ (high * 2 ^ n + here) * 2 ^ s + low =
    ap (raw d p) count ∙ raw_split d p s (n + m) ∙ ap (λ r. r * 2 ^ s + low) (raw_split d (p + s) n m) in
    ap (λ r. r / 2 ^ s % 2 ^ n) parts ∙ ap (λ r. r % 2 ^ n) (shr_high (high * 2 ^ n + here) s low (raw_lt d p s)) ∙ mod_low high n here (raw_lt d (p + s) n)

-- bits out of the first word
word_bits : (d : List ℕ) (word at bits : ℕ) → word ≡ raw d 0 64 → at + bits ≤ 64 → word / 2 ^ at % 2 ^ bits ≡ raw d at bits
word_bits d word at bits is inside =
    ap (λ w. w / 2 ^ at % 2 ^ bits) is ∙ raw_out_of d 0 at bits 64 inside ∙ ap (λ p. raw d p bits) (let e : 0 + at ≡ at = omega arith in e)

-- the same under their mask
pub bits_of_word : (d : List ℕ) (word at bits mask : ℕ) → word ≡ raw d 0 64 → mask ≡ 2 ^ bits - 1 → at + bits ≤ 64 → bit_and (word / 2 ^ at) mask ≡ raw d at bits
bits_of_word d word at bits mask is all inside = ap (bit_and (word / 2 ^ at)) all ∙ and_mask (word / 2 ^ at) bits ∙ word_bits d word at bits is inside

-- the same of a word that may have other bits after the bytes
pub bits_under_mask : (d : List ℕ) (word at bits mask : ℕ) → HasFirstBits word d → mask ≡ 2 ^ bits - 1 → at + bits ≤ 64 → at + bits ≤ 8 * length d → bit_and (word / 2 ^ at) mask ≡ raw d at bits
bits_under_mask d word at bits mask has all inside within = ap (bit_and (word / 2 ^ at)) all ∙ and_mask (word / 2 ^ at) bits ∙ has at bits inside within

-- bits of the first bytes
raw_of_first : (n : ℕ) (d : List ℕ) (a m : ℕ) → a + m ≤ 8 * n → raw (take n d) a m ≡ raw d a m
unfolding raw
raw_of_first n d a zero le = refl
raw_of_first n d a (suc m) le =
    let here : bit (take n d) (a + m) ≡ bit d (a + m) = ap (λ b. b / 2 ^ ((a + m) % 8) % 2) (get_or-take n d ((a + m) / 8) 0 (omega (arith, le))) in
    rw (raw_of_first n d a m (omega (arith, le)), here) refl

-- the first word of some bytes has the bits of them, and of as many of them as one likes
pub first_bits : (d : List ℕ) (word : ℕ) → word ≡ raw d 0 64 → HasFirstBits word d
first_bits d word is = λ at bits inside within. word_bits d word at bits is inside

pub first_bits_of_first : (n : ℕ) (d : List ℕ) (word : ℕ) → word ≡ raw d 0 64 → HasFirstBits word (take n d)
first_bits_of_first n d word is = λ at bits inside within. word_bits d word at bits is inside
    ∙ sym (raw_of_first n d at bits (omega (arith, within, length-take n d)))

-- a byte, and the bits above it
next_byte : (d : List ℕ) (k m : ℕ) → slice_index d k < 256 → raw d (8 * k) (m + 8) ≡ slice_index d k + 256 * raw d (8 * (k + 1)) m
next_byte d k m small =
    let byte : 8 * k / 8 ≡ k = omega arith in
    let place : 8 * k + 8 ≡ 8 * (k + 1) = omega arith in
    rw (byte, place) at (raw_byte d (8 * k) m (omega arith) (rw byte small))

-- a number's eight bytes, each worth 256 times the one before
worth : (a b c d e f g h : ℕ)
    → a + b * 256 + c * 65536 + d * 16777216 + e * 4294967296 + f * 1099511627776 + g * 281474976710656 + h * 72057594037927936
    ≡ a + 256 * (b + 256 * (c + 256 * (d + 256 * (e + 256 * (f + 256 * (g + 256 * (h + 256 * 0)))))))
worth a b c d e f g h = omega arith

-- eight bytes as one number; those that are missing count as 0
pub raw_eight_bytes : (d eight : List ℕ) → ((k : ℕ) → slice_index d k < 256) → ((k : ℕ) → k < 8 → slice_index eight k ≡ slice_index d k) → from_le_bytes w64 eight ≡ raw d 0 64
unfolding raw
raw_eight_bytes d eight small at =
    let b = λ (k : ℕ). slice_index d k in
    let next = λ (k m : ℕ). next_byte d k m (small k) in
    rw (at 0 (lit< tt), at 1 (lit< tt), at 2 (lit< tt), at 3 (lit< tt), at 4 (lit< tt), at 5 (lit< tt), at 6 (lit< tt), at 7 (lit< tt))
    (worth (b 0) (b 1) (b 2) (b 3) (b 4) (b 5) (b 6) (b 7)
    ∙ sym (next 0 56 ∙ ap (λ r. b 0 + 256 * r) (next 1 48 ∙ ap (λ r. b 1 + 256 * r) (next 2 40 ∙ ap (λ r. b 2 + 256 * r) (next 3 32
    ∙ ap (λ r. b 3 + 256 * r) (next 4 24 ∙ ap (λ r. b 4 + 256 * r) (next 5 16 ∙ ap (λ r. b 5 + 256 * r) (next 6 8 ∙ ap (λ r. b 6 + 256 * r) (next 7 0)))))))))

-- fewer than eight bytes, and zeros after them
pub raw_padded : (d eight : List ℕ) → length d < 8 → ((k : ℕ) → slice_index d k < 256) → eight ≡ d ++ drop (length d) (replicate 8 0) → from_le_bytes w64 eight ≡ raw d 0 64
raw_padded d eight few small is = raw_eight_bytes d eight small (λ k lt. ap (λ (bs : List ℕ). slice_index bs k) is ∙ at k lt (cases_lt k (length d)))
  where
    at : (k : ℕ) → k < 8 → (k < length d) ⊎ (length d ≤ k) → slice_index (d ++ drop (length d) (replicate 8 0)) k ≡ slice_index d k
    at k lt (inl inside) = get_or_append_left d (drop (length d) (replicate 8 0)) 0 k inside
    at k lt (inr past) =
        get_or-append_right d (drop (length d) (replicate 8 0)) (length d) k 0 refl past ∙ get_or-drop (length d) (replicate 8 0) (k - length d) 0
        ∙ get_or-replicate 8 (length d + (k - length d)) 0 0 (omega (arith, lt, past)) ∙ sym (get_or_past d k 0 past)

-- bits after the first bytes
pub raw_drop : (d : List ℕ) (f a n : ℕ) → raw (drop f d) a n ≡ raw d (8 * f + a) n
unfolding raw
raw_drop d f a zero = refl
raw_drop d f a (suc n) =
    let byte : (8 * f + a + n) / 8 ≡ f + (a + n) / 8 = omega arith in
    let place : (8 * f + a + n) % 8 ≡ (a + n) % 8 = omega arith in
    let here : bit (drop f d) (a + n) ≡ bit d (8 * f + a + n) = rw (byte, place, get_or-drop f d ((a + n) / 8) 0) refl in
    rw (raw_drop d f a n, here) refl
