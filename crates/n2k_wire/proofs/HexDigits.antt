-- Pairs of hexadecimal digits, by the values of the digits; digits lane by lane.
use Rattle.std.proofs.Common.{◌≡◌, ℕ, zero, suc, ◌+◌, ◌*◌, ◌%◌, ◌^◌, ◌<◌, ◌≤◌, Bool, true, false, cond, eqb, ltb, not, ◌&&◌, ◌||◌, List, [], ◌∷◌, ◌++◌, length, get_or, map, take, drop, replicate, bit_and, bit_or, Fits, w8, Some, Ok, refl, sym, ap, ◌∙◌, arith, ◌-◌, inl, inr}
use Rattle.std.specs.Char.{is_ascii_digit, is_ascii_hexdigit}
use Rattle.std.specs.List.{list_all, position_or_len}
use Rattle.std.specs.Result.{result_ok}
use Rattle.std.proofs.lemmas.Bool.{agree_below_at, and_parts, cases_Bool, eqb-true}
use Rattle.std.proofs.lemmas.Bool.Decides.{nat_tests}
use Rattle.std.proofs.lemmas.Simd.{mask_l-mod}
use Rattle.std.proofs.Math.Bool.{and-true, and_assoc}
use Rattle.std.proofs.Math.Numerals.{one-add}
use Rattle.std.proofs.Math.Seq.{drop-cons}
use Rattle.std.proofs.Math.ListN.{drop_of_length-le}
use lib.Lanes.{Each1, mask_l, pick_l, sel_l, top, zip2}
use Rattle.hex.specs.Hex.{hex_digit_value, decode_pairs, decode_of}
use Rattle.n2k_wire.specs.Inner.Digits.{hex_value}
use Rattle.n2k_wire.specs.Plain.{pair}
use Rattle.n2k_wire.proofs.TextLemmas.{listed, listed_all}

-- the value that `hex` gives a digit
pub hex_digit_value-is : (digit : ℕ) → is_ascii_hexdigit digit ≡ true → hex_digit_value digit ≡ Some (hex_value digit)
hex_digit_value-is digit e = grind (arith, nat_tests)

-- the bytes of pairs of digits
unfoldable pub spelled : List ℕ → List ℕ
spelled [] = []
spelled (digit ∷ []) = []
spelled (high ∷ low ∷ rest) = (hex_value high * 16 + hex_value low) ∷ spelled rest

pub decode_pairs-spelled : (i n : ℕ) (digits : List ℕ) → list_all is_ascii_hexdigit digits ≡ true → length digits ≡ 2 * n → decode_pairs i digits ≡ Ok (spelled digits)
unfolding decode_pairs spelled
decode_pairs-spelled i n [] all e = refl
decode_pairs-spelled i n (digit ∷ []) all e = absurd (omega arith)
decode_pairs-spelled i n (high ∷ low ∷ rest) all e =
    let first : (is_ascii_hexdigit high ≡ true) × (list_all is_ascii_hexdigit (low ∷ rest) ≡ true) = and_parts _ _ all in
    let second : (is_ascii_hexdigit low ≡ true) × (list_all is_ascii_hexdigit rest ≡ true) = and_parts _ _ first.1 in
    let more : length rest ≡ 2 * (n - 1) = omega arith in
    rw (hex_digit_value-is high first.0, hex_digit_value-is low second.0, decode_pairs-spelled (i + 2) (n - 1) rest second.1 more) refl

pub decode_of-even : (n : ℕ) (digits : List ℕ) → list_all is_ascii_hexdigit digits ≡ true → length digits ≡ 2 * n → result_ok (decode_of digits) ≡ Some (spelled digits)
decode_of-even n digits all e = grind (arith, decode_pairs-spelled 0 n digits all e)

some_same : (x y : List ℕ) → Some x ≡ Some y → x ≡ y
some_same x y e = cc

pub spelled_bytes : (n : ℕ) (digits bytes : List ℕ) → list_all is_ascii_hexdigit digits ≡ true → length digits ≡ 2 * n → result_ok (decode_of digits) ≡ Some bytes → spelled digits ≡ bytes
spelled_bytes n digits bytes all e read = some_same _ _ (sym (decode_of-even n digits all e) ∙ read)

-- the digits that a text begins with are digits
pub all_before : (p : ℕ → Bool) (text : List ℕ) → list_all p (take (position_or_len (λ b. not (p b)) text) text) ≡ true
all_before p [] = refl
all_before p (b ∷ text) =
    elim (cases_Bool (p b)) [
      | inl passes ↦ rw (passes, one-add, passes) (all_before p text)
      | inr fails ↦ rw fails refl
    ]

pub all_prefix : (p : ℕ → Bool) (n : ℕ) (text : List ℕ) → list_all p text ≡ true → list_all p (take n text) ≡ true
all_prefix p zero text all = refl
all_prefix p (suc n) [] all = refl
all_prefix p (suc n) (b ∷ text) all = grind (arith, all_prefix p n text (and_parts (p b) (list_all p text) all).1)

-- one byte more is looked at
pub all_more : (p : ℕ → Bool) (bytes : List ℕ) (i : ℕ) (so_far : Bool) → i < length bytes → (so_far && list_all p (drop i bytes)) ≡ list_all p bytes
    → ((so_far && p (get_or bytes i 0)) && list_all p (drop (i + 1) bytes)) ≡ list_all p bytes
all_more p bytes i so_far within before =
    let next : suc i ≡ i + 1 = omega arith in
    let cut : drop i bytes ≡ get_or bytes i 0 ∷ drop (i + 1) bytes = drop-cons bytes i 0 within ∙ ap (λ k. get_or bytes i 0 ∷ drop k bytes) next in
    and_assoc so_far (p (get_or bytes i 0)) (list_all p (drop (i + 1) bytes)) ∙ (rw cut at before)

pub all_done : (p : ℕ → Bool) (bytes : List ℕ) (i : ℕ) (so_far : Bool) → length bytes ≤ i → (so_far && list_all p (drop i bytes)) ≡ list_all p bytes → so_far ≡ list_all p bytes
all_done p bytes i so_far past before = sym (and-true so_far) ∙ (rw (drop_of_length-le bytes {i = i} past) at before)

-- a text of digits alone is as long as its leading digits
pub all_digits : (p : ℕ → Bool) (text : List ℕ) → list_all p text ≡ true → length text ≡ position_or_len (λ b. not (p b)) text
all_digits p [] all = refl
all_digits p (b ∷ text) all =
    let first : (p b ≡ true) × (list_all p text ≡ true) = and_parts _ _ all in
    let rest = all_digits p text first.1 in
    rw first.0 (omega arith)

-- two digits spell one byte
pub pair_spelled : (high low : ℕ) → is_ascii_hexdigit high ≡ true → is_ascii_hexdigit low ≡ true → pair (high ∷ low ∷ []) ≡ Some ((hex_value high * 16 + hex_value low) ∷ [])
unfolding pair decode_pairs
pair_spelled high low a b = rw (hex_digit_value-is high a, hex_digit_value-is low b) refl

-- ---- sixteen digits, lane by lane

-- the distances of a byte from `0` and, in lower case, from `a`
abbrev figure : ℕ → ℕ
figure b = (b + (256 - 48)) % 256

abbrev letter : ℕ → ℕ
letter b = (bit_or b 32 + (256 - 97)) % 256

abbrev no_figure : ℕ → ℕ
no_figure b = cond (ltb 9 (figure b)) 255 0

abbrev other : ℕ → Bool
other b = top 7 (bit_and (no_figure b) (cond (ltb 5 (letter b)) 255 0))

abbrev value : ℕ → ℕ
value b = cond (top 7 (no_figure b)) ((letter b + 10) % 256) (figure b)

is_digit : (b : ℕ) → b < 256 → other b ≡ false → (is_ascii_hexdigit b ≡ true) × (value b ≡ hex_value b)
is_digit b byte digit = grind (arith, agree_below_at (λ c. other c || (is_ascii_hexdigit c && eqb (value c) (hex_value c))) (λ c. true) 256 b refl byte, eqb-true)

abbrev figures : ℕ → List ℕ → List ℕ
figures n bytes = zip2 (λ a b. (a + (256 - b)) % 256) bytes (replicate n 48)

abbrev letters : ℕ → List ℕ → List ℕ
letters n bytes = zip2 (λ a b. (a + (256 - b)) % 256) (zip2 bit_or bytes (replicate n 32)) (replicate n 97)

abbrev above : ℕ → ℕ → List ℕ → List ℕ
above n most bytes = zip2 (λ a b. cond (ltb a b) 255 0) (replicate n most) bytes

abbrev others : ℕ → List ℕ → List Bool
others n bytes = map (top 7) (zip2 bit_and (above n 9 (figures n bytes)) (above n 5 (letters n bytes)))

abbrev pub values : ℕ → List ℕ → List ℕ
values n bytes = sel_l (map (top 7) (above n 9 (figures n bytes))) (zip2 (λ a b. (a + b) % 256) (letters n bytes) (replicate n 10)) (figures n bytes)

length-others : (bytes : List ℕ) → length (others (length bytes) bytes) ≡ length bytes
length-others [] = refl
length-others (b ∷ bytes) = omega (arith, length-others bytes)

lanes_read : (bytes : List ℕ) → Each1 (Fits w8) bytes → mask_l (others (length bytes) bytes) ≡ 0 → (list_all is_ascii_hexdigit bytes ≡ true) × (values (length bytes) bytes ≡ map hex_value bytes)
lanes_read [] small none = (refl, refl)
lanes_read (b ∷ bytes) small none =
    elim (cases_Bool (other b)) [
      | inl stops ↦ absurd (let some = rw stops at none in omega arith)
      | inr digit ↦
          let first = is_digit b small.0.fits digit in
          let left = rw digit at none in
          let rest = lanes_read bytes small.1 (omega arith) in
          (rw first.0 rest.0, λ i. first.1 i ∷ rest.1 i)
    ]

pub sixteen_read : (bytes : List ℕ) → length bytes ≡ 16 → Each1 (Fits w8) bytes → mask_l (others 16 bytes) % 2 ^ 64 ≡ 0
    → (list_all is_ascii_hexdigit bytes ≡ true) × (values 16 bytes ≡ map hex_value bytes)
sixteen_read bytes long small none =
    let whole : length (others 16 bytes) ≡ 16 = rw long at (length-others bytes) in
    (rw long at (lanes_read bytes small)) (sym (mask_l-mod (others 16 bytes) 64 (omega (arith, whole))) ∙ none)

-- the bytes of pairs of digits
abbrev joined : List ℕ → List ℕ
joined vs =
    zip2 (λ a b. (a + b) % 256) (zip2 (λ a b. a * b % 256) (pick_l 0 (vs ++ vs) (0 ∷ 2 ∷ 4 ∷ 6 ∷ 8 ∷ 10 ∷ 12 ∷ 14 ∷ [])) (replicate 8 16))
    (pick_l 0 (vs ++ vs) (1 ∷ 3 ∷ 5 ∷ 7 ∷ 9 ∷ 11 ∷ 13 ∷ 15 ∷ []))

byte_is : (high low : ℕ) → is_ascii_hexdigit high ≡ true → is_ascii_hexdigit low ≡ true → (hex_value high * 16 % 256 + hex_value low) % 256 ≡ hex_value high * 16 + hex_value low
byte_is high low a b = grind (arith, nat_tests)

-- each of some hexadecimal digits is one
pub digit_at : (digits : List ℕ) (i : ℕ) → list_all is_ascii_hexdigit digits ≡ true → i < length digits → is_ascii_hexdigit (get_or digits i 0) ≡ true
digit_at [] i all within = absurd (omega arith)
digit_at (digit ∷ digits) zero all within = (and_parts _ _ all).0
digit_at (digit ∷ digits) (suc i) all within = digit_at digits i (and_parts _ _ all).1 (omega arith)

joined_is : (digits : List ℕ) → length digits ≡ 16 → list_all is_ascii_hexdigit digits ≡ true → joined (map hex_value digits) ≡ spelled digits
unfolding listed spelled
joined_is digits long all =
    let each : digits ≡ listed 16 0 digits = listed_all 16 0 digits long in
    let byte : (k : ℕ) → k < 15 → (hex_value (get_or digits k 0) * 16 % 256 + hex_value (get_or digits (suc k) 0)) % 256 ≡ hex_value (get_or digits k 0) * 16 + hex_value (get_or digits (suc k) 0) = λ k within.
    byte_is (get_or digits k 0) (get_or digits (suc k) 0) (digit_at digits k all (omega arith)) (digit_at digits (suc k) all (omega arith)) in
    ap (λ t. joined (map hex_value t)) each
    ∙ (λ i. byte 0 (omega arith) i ∷ byte 2 (omega arith) i ∷ byte 4 (omega arith) i ∷ byte 6 (omega arith) i ∷ byte 8 (omega arith) i ∷ byte 10 (omega arith) i ∷ byte 12 (omega arith) i ∷ byte 14 (omega arith) i ∷ [])
    ∙ ap spelled (sym each)

pub sixteen_joined : (digits : List ℕ) → length digits ≡ 16 → (list_all is_ascii_hexdigit digits ≡ true) × (values 16 digits ≡ map hex_value digits) → joined (values 16 digits) ≡ spelled digits
sixteen_joined digits long read = ap joined read.1 ∙ joined_is digits long read.0

-- ---- decimal digits, lane by lane

is_decimal : (b : ℕ) → b < 256 → top 7 (no_figure b) ≡ false → is_ascii_digit b ≡ true
is_decimal b byte none = grind (arith, agree_below_at (λ c. top 7 (no_figure c) || is_ascii_digit c) (λ c. true) 256 b refl byte)

-- the lanes of the first bytes, whose greatest figure is nine, and any others
digits_lead : (n : ℕ) (rest bytes : List ℕ) → Each1 (Fits w8) bytes
    → mask_l (map (top 7) (zip2 (λ a b. cond (ltb a b) 255 0) (replicate n 9 ++ rest) (figures (length bytes) bytes))) ≡ 0 → list_all is_ascii_digit (take n bytes) ≡ true
digits_lead zero rest bytes small none = refl
digits_lead (suc n) rest [] small none = refl
digits_lead (suc n) rest (b ∷ bytes) small none =
    elim (cases_Bool (top 7 (no_figure b))) [
      | inl stops ↦ absurd (let some = rw stops at none in omega arith)
      | inr digit ↦
          let left = rw digit at none in
          rw (is_decimal b small.0.fits digit) (digits_lead n rest bytes small.1 (omega arith))
    ]

length-lanes : (most figs : List ℕ) → length (map (top 7) (zip2 {A = ℕ} {B = ℕ} {C = ℕ} (λ a b. cond (ltb a b) 255 0) most figs)) ≤ length most
length-lanes [] figs = omega arith
length-lanes (a ∷ most) [] = omega arith
length-lanes (a ∷ most) (b ∷ figs) = omega (arith, length-lanes most figs)

pub six_of_eight : (bytes : List ℕ) → length bytes ≡ 8 → Each1 (Fits w8) bytes
    → mask_l (map (top 7) (zip2 (λ a b. cond (ltb a b) 255 0) (9 ∷ 9 ∷ 9 ∷ 9 ∷ 9 ∷ 9 ∷ 255 ∷ 255 ∷ []) (figures 8 bytes))) % 2 ^ 64 ≡ 0 → list_all is_ascii_digit (take 6 bytes) ≡ true
six_of_eight bytes long small none =
    let most : List ℕ = 9 ∷ 9 ∷ 9 ∷ 9 ∷ 9 ∷ 9 ∷ 255 ∷ 255 ∷ [] in
    let lanes = map (top 7) (zip2 {A = ℕ} {B = ℕ} {C = ℕ} (λ a b. cond (ltb a b) 255 0) most (figures 8 bytes)) in
    digits_lead 6 (255 ∷ 255 ∷ []) bytes small (rw long (sym (mask_l-mod lanes 64 (omega (arith, length-lanes most (figures 8 bytes)))) ∙ none))
