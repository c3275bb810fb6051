-- Plain lines, written in pieces of constant length.
use Rattle.std.proofs.Common.{◌≡◌, ℕ, suc, ◌+◌, ◌-◌, ◌*◌, ◌/◌, ◌%◌, ◌^◌, ◌<◌, ◌≤◌, IsTrue, true, false, cond, eqb, ltb, List, [], ◌∷◌, ◌++◌, length, get_or, map, take, slice_index, replicate, bit_and, refl, ap, append_assoc, arith, inl, inr, codes, length-take-le, take-take}
use Rattle.std.specs.Int.{w32, w64, to_le_bytes}
use Rattle.std.proofs.lemmas.Bool.{agree_below_at, cases_Bool, cases_lt, eqb-true}
use Rattle.std.proofs.lemmas.Nat.{and_mask}
use Rattle.hex.specs.Hex.{encode_with, encode_lower, encode_upper, lower_digits, upper_digits}
use Rattle.n2k_wire.specs.Packet.{PacketParts, is_stamp}
use Rattle.n2k_wire.specs.Inner.Digits.{digit_lane}
use Rattle.n2k_wire.specs.Heads.{begins_candump, plain_end, plain_head}
use lib.Lanes.{pick_l, sel_l, top, zip2}
use Rattle.itoa.proofs.Decimal.{decimal_two, decimal_four}
use Rattle.std.proofs.lemmas.Fmt.{decimal_digit}
use Rattle.n2k_wire.specs.Texts.{number_column, plain_line, plain_text}
use Rattle.n2k_wire.proofs.TextLemmas.{listed, listed_all, column_of_one, column_of_two, column_of_three}

take_past : (p q : List ℕ) (k : ℕ) → take (length p + k) (p ++ q) ≡ p ++ take k q
take_past [] q k = grind arith
take_past (x ∷ p) q k =
    let one : length (x ∷ p) + k ≡ suc (length p + k) = omega arith in
    rw one (ap (λ (t : List ℕ). x ∷ t) (take_past p q k))

-- the first of some bytes that were written after others
pub partly : (new old bytes : List ℕ) (at count n : ℕ) → take (at + n) new ≡ take at old ++ bytes → count ≤ n → at ≤ length old
    → take (at + count) new ≡ take at old ++ take count bytes
partly new old bytes at count n is few inside = grind (arith, length-take-le at old inside, take-take (at + count) (at + n) new (omega arith), take_past (take at old) bytes count)

-- ---- numbers

-- `0` and three digits, from the low end of a word on
abbrev pub digits_of : ℕ → ℕ
digits_of n = 48 + (48 + n / 100) * 2 ^ 8 + (48 + n / 10 % 10) * 2 ^ 16 + (48 + n % 10) * 2 ^ 24

eight_bytes : (x a b c d e f g h : ℕ) → a < 256 → b < 256 → c < 256 → d < 256 → e < 256 → f < 256 → g < 256 → h < 256
    → x ≡ a + b * 2 ^ 8 + c * 2 ^ 16 + d * 2 ^ 24 + (e + f * 2 ^ 8 + g * 2 ^ 16 + h * 2 ^ 24) * 2 ^ 32 → to_le_bytes w64 x ≡ a ∷ b ∷ c ∷ d ∷ e ∷ f ∷ g ∷ h ∷ []
eight_bytes x a b c d e f g h A B C D E F G H is = grind arith

one_digit : (n : ℕ) → n < 10 → take 2 (to_le_bytes w32 (digits_of n / 2 ^ 16 - 4)) ≡ number_column n
one_digit n small = grind (arith, column_of_one)

two_digits : (n : ℕ) → 10 ≤ n → n < 100 → take 3 (to_le_bytes w32 (digits_of n / 2 ^ 8 - 4)) ≡ number_column n
two_digits n large small = grind (arith, column_of_two)

three_digits : (n : ℕ) → 100 ≤ n → n < 1000 → take 4 (to_le_bytes w32 (digits_of n / 2 ^ 0 - 4)) ≡ number_column n
three_digits n large small = grind (arith, column_of_three)

-- the comma takes the place of the last zero
pub column_of_small : (n free : ℕ) → n < 256 → (n < 10 → free ≡ 2) → (10 ≤ n → n < 100 → free ≡ 1) → (100 ≤ n → free ≡ 0)
    → take (4 - free) (to_le_bytes w32 (digits_of n / 2 ^ (8 * free) - 4)) ≡ number_column n
column_of_small n free byte two one none = grind (arith, one_digit, two_digits, three_digits)

-- ---- PGNs of five and six digits

-- the word of six digits, the first of which may be a zero
abbrev pub pgn_of : ℕ → ℕ
pgn_of n = digits_of (n / 1000) + digits_of (n % 1000) / 256 * 4294967296

pub column_of_six : (n : ℕ) → 100000 ≤ n → n < 1000000 → take 7 (to_le_bytes w64 (pgn_of n - 4)) ≡ number_column n
column_of_six n large small = grind (arith, decimal_four, decimal_two)

pub column_of_five : (n : ℕ) → 10000 ≤ n → n < 100000 → take 6 (to_le_bytes w64 (pgn_of n / 256 - 4)) ≡ number_column n
column_of_five n large small = grind (arith, decimal_four, decimal_digit)

pub word_is_large : (n free : ℕ) → free ≤ 2 → 4 ≤ digits_of n / 2 ^ (8 * free)
word_is_large n free few = grind (arith, cases_lt free 1, cases_lt free 2)

-- ---- the eight bytes

-- the digits of some numbers, lane by lane
pub lanes_are : (letter : ℕ) (xs : List ℕ)
    → sel_l (map (top 7) (zip2 (λ a b. cond (ltb a b) 255 0) (replicate (length xs) 9) xs)) (zip2 (λ a b. (a + b) % 256) xs (replicate (length xs) (letter - 10))) (zip2 (λ a b. (a + b) % 256) xs (replicate (length xs) 48)) ≡ map (digit_lane letter) xs
lanes_are letter [] = refl
lanes_are letter (x ∷ xs) = elim (cases_Bool (ltb 9 x)) [ inl large ↦ rw (large, lanes_are letter xs) refl | inr figure ↦ rw (figure, lanes_are letter xs) refl ]

-- the digits of eight bytes
abbrev pub digits_of_eight : ℕ → List ℕ → List ℕ
digits_of_eight letter bytes =
    map (digit_lane letter) (pick_l 0 (zip2 (λ a b. a / 2 ^ b) bytes (replicate 8 4) ++ zip2 bit_and bytes (replicate 8 15)) (0 ∷ 8 ∷ 1 ∷ 9 ∷ 2 ∷ 10 ∷ 3 ∷ 11 ∷ 4 ∷ 12 ∷ 5 ∷ 13 ∷ 6 ∷ 14 ∷ 7 ∷ 15 ∷ []))

-- a letter and a table of digits that agree
module _ (letter : ℕ) (table : List ℕ) (agree : (n : ℕ) → n < 16 → digit_lane letter n ≡ slice_index table n) where
  high_digit : (b : ℕ) → b < 256 → digit_lane letter (b / 16) ≡ slice_index table (b / 16)
  high_digit b byte = agree (b / 16) (omega arith)

  low_digit : (b : ℕ) → digit_lane letter (bit_and b 15) ≡ slice_index table (b % 16)
  low_digit b = grind (arith, and_mask b 4, agree (b % 16))

  eight_by : (a b c d e f g h : ℕ) → a < 256 → b < 256 → c < 256 → d < 256 → e < 256 → f < 256 → g < 256 → h < 256
      → digits_of_eight letter (a ∷ b ∷ c ∷ d ∷ e ∷ f ∷ g ∷ h ∷ []) ≡ encode_with table (a ∷ b ∷ c ∷ d ∷ e ∷ f ∷ g ∷ h ∷ [])
  unfolding encode_with
  eight_by a b c d e f g h A B C D E F G H = grind (arith, high_digit, low_digit)

  eight_are : (bytes : List ℕ) → length bytes ≡ 8 → ((k : ℕ) → get_or bytes k 0 < 256) → digits_of_eight letter bytes ≡ encode_with table bytes
  unfolding listed
  eight_are bytes long small = grind (arith, listed_all 8 0 bytes long, eight_by (get_or bytes 0 0) (get_or bytes 1 0) (get_or bytes 2 0) (get_or bytes 3 0) (get_or bytes 4 0) (get_or bytes 5 0) (get_or bytes 6 0) (get_or bytes 7 0) (small 0) (small 1) (small 2) (small 3) (small 4) (small 5) (small 6) (small 7))

lower_agrees : (n : ℕ) → n < 16 → digit_lane 97 n ≡ slice_index lower_digits n
lower_agrees n small = eqb-true _ _ (agree_below_at (λ k. eqb (digit_lane 97 k) (slice_index lower_digits k)) (λ k. true) 16 n refl small)

upper_agrees : (n : ℕ) → n < 16 → digit_lane 65 n ≡ slice_index upper_digits n
upper_agrees n small = eqb-true _ _ (agree_below_at (λ k. eqb (digit_lane 65 k) (slice_index upper_digits k)) (λ k. true) 16 n refl small)

pub lower_are : (bytes : List ℕ) → length bytes ≡ 8 → ((k : ℕ) → get_or bytes k 0 < 256) → digits_of_eight 97 bytes ≡ encode_lower bytes
lower_are = eight_are 97 lower_digits lower_agrees

pub upper_are : (bytes : List ℕ) → length bytes ≡ 8 → ((k : ℕ) → get_or bytes k 0 < 256) → digits_of_eight 65 bytes ≡ encode_upper bytes
upper_are = eight_are 65 upper_digits upper_agrees

-- the end of a line of eight bytes, picked from their digits
abbrev pub end_of : List ℕ → List ℕ
end_of digits =
    take 27 (pick_l 0 (digits ++ codes ",8\n.............") (16 ∷ 17 ∷ 16 ∷ 0 ∷ 1 ∷ 16 ∷ 2 ∷ 3 ∷ 16 ∷ 4 ∷ 5 ∷ 16 ∷ 6 ∷ 7 ∷ 16 ∷ 8 ∷ 9 ∷ 16 ∷ 10 ∷ 11 ∷ 16 ∷ 12 ∷ 13 ∷ 16 ∷ 14 ∷ 15 ∷ 18 ∷ 19 ∷ 19 ∷ 19 ∷ 19 ∷ 19 ∷ []))

end_of_eight : (a b c d e f g h : ℕ) → end_of (encode_lower (a ∷ b ∷ c ∷ d ∷ e ∷ f ∷ g ∷ h ∷ [])) ≡ plain_end (a ∷ b ∷ c ∷ d ∷ e ∷ f ∷ g ∷ h ∷ [])
unfolding encode_with
end_of_eight a b c d e f g h = grind (arith, decimal_digit)

pub end_is : (bytes digits : List ℕ) → length bytes ≡ 8 → digits ≡ encode_lower bytes → end_of digits ≡ plain_end bytes
unfolding listed
end_is bytes digits long is = grind (arith, listed_all 8 0 bytes long, end_of_eight (get_or bytes 0 0) (get_or bytes 1 0) (get_or bytes 2 0) (get_or bytes 3 0) (get_or bytes 4 0) (get_or bytes 5 0) (get_or bytes 6 0) (get_or bytes 7 0))

-- ---- the line

-- the pieces, written in order, are the start of the line
pub head_is : (p : PacketParts) (t0 t1 t2 t3 t4 t5 stamp prio pgn src dst : List ℕ)
    → t1 ≡ t0 ++ stamp → t2 ≡ t1 ++ prio → t3 ≡ t2 ++ pgn → t4 ≡ t3 ++ src → t5 ≡ t4 ++ dst
    → stamp ≡ p.stamp → prio ≡ number_column p.id.prio → pgn ≡ number_column p.id.pgn → src ≡ number_column p.id.src → dst ≡ number_column p.id.dst
    → t5 ≡ t0 ++ plain_head p
head_is p t0 t1 t2 t3 t4 t5 stamp prio pgn src dst a b c d e stamp_is prio_is pgn_is src_is dst_is = grind (arith, append_assoc)

-- a plain line's first byte is another than a candump line's
pub is_plain : (p : PacketParts) → IsTrue (is_stamp p.stamp) → begins_candump (plain_head p) ≡ false
is_plain p ok = first p.stamp (number_column p.id.prio) (number_column p.id.pgn) (number_column p.id.src) (number_column p.id.dst) ok where
  first : (stamp prio pgn src dst : List ℕ) → is_stamp stamp ≡ true → begins_candump (stamp ++ prio ++ pgn ++ src ++ dst) ≡ false
  first [] prio pgn src dst ok = absurd cc
  first (b ∷ bs) prio pgn src dst ok = grind arith

-- the start and the end are the line
pub line_is : (p : PacketParts) (payload : List ℕ) → plain_head p ++ plain_end payload ≡ plain_text (record p { payload = payload })
unfolding plain_line
line_is p payload = grind (arith, append_assoc)
