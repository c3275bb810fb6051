-- Bytes, digits and texts that a field shows are accepted.
use Rattle.std.proofs.Common.{◌≡◌, ℕ, ◌+◌, ◌-◌, ◌*◌, ◌/◌, ◌%◌, ◌<◌, ◌≤◌, ◌==◌, Bool, true, false, ◌||◌, nat_lt, inl, inr, take, drop, nat_le, List, [], ◌∷◌, ◌++◌, length, Some, refl, ap, sym, ◌∙◌, arith}
use Rattle.std.specs.List.{flat_map, list_all, slice_index}
use Rattle.std.specs.Char.{encode_utf8}
use Rattle.std.specs.Cmp.Lexicographic.{same_text}
use Rattle.std.specs.Str.{bytes_eq}
use Rattle.std.proofs.lemmas.Bool.{cases_Bool, cases_lt}
use Rattle.std.proofs.lemmas.List.{take-append-drop}
use Rattle.std.proofs.lemmas.Str.{encode_ascii}
use Rattle.json.specs.Json.{string}
use Rattle.n2k_table.specs.Shown as shows
use Rattle.n2k_table.specs.Text.{character, hex_digits, hex_pair, two_digits}
use Rattle.n2k_encode.specs.Says.{after, has_pairs, has_pieces, later_pair, says}
use Rattle.n2k_encode.specs.Steps.{is_some_with}
use Rattle.n2k_encode.specs.Texts.{before, digit_pairs, digits_byte, hex_byte, hex_bytes, hex_digit, latin1, later_pairs}
use Rattle.n2k_encode.proofs.Pieces.{pieces_are}
use Rattle.n2k_encode.proofs.Numbers.{both}
use Rattle.n2k_encode.proofs.Pairs.{spelled, spelled_is}

hex_of : (a : ℕ) → a < 16 → hex_digit (slice_index hex_digits a) ≡ Some a
unfolding spelled
hex_of a few = rw (spelled_is a few) (grind (arith, few))

hex_byte_of : (b : ℕ) → b < 256 → hex_byte (slice_index hex_digits (b / 16)) (slice_index hex_digits (b % 16)) ≡ Some b
hex_byte_of b few =
    let high = hex_of (b / 16) (omega (arith, few)) in
    let low = hex_of (b % 16) (omega arith) in
    let whole : 16 * (b / 16) + b % 16 ≡ b = omega arith in
    rw (high, low) (ap Some whole)

later_again : (bs : List ℕ) → list_all (λ b. nat_lt b 256) bs ≡ true → later_pairs (flat_map later_pair bs) ≡ Some bs
later_again [] all = refl
later_again (b ∷ bs) all =
    let tests = both (nat_lt b 256) _ all in
    let few : b < 256 = grind (arith, tests.0) in
    rw (hex_byte_of b few, later_again bs tests.1) refl

hex_again : (b : ℕ) (bs : List ℕ) → list_all (λ x. nat_lt x 256) (b ∷ bs) ≡ true → hex_bytes (hex_pair b ++ flat_map later_pair bs) ≡ Some (b ∷ bs)
hex_again b bs all =
    let tests = both (nat_lt b 256) _ all in
    let few : b < 256 = grind (arith, tests.0) in
    rw (hex_byte_of b few, later_again bs tests.1) refl

digits_of_byte : (b : ℕ) → b ≤ 99 → digits_byte (48 + b / 10) (48 + b % 10) ≡ Some b
digits_of_byte b few =
    let high : b / 10 ≤ 9 = omega (arith, few) in
    let low : b % 10 ≤ 9 = omega arith in
    let whole : 10 * (b / 10) + b % 10 ≡ b = omega arith in
    grind (arith, high, low, whole)

digits_again : (bs : List ℕ) → list_all (λ b. nat_le b 99) bs ≡ true → digit_pairs (flat_map two_digits bs) ≡ Some bs
digits_again [] all = refl
digits_again (b ∷ bs) all =
    let tests = both (nat_le b 99) _ all in
    let few : b ≤ 99 = grind (arith, tests.0) in
    rw (digits_of_byte b few, digits_again bs tests.1) refl

two_bytes : (b : ℕ) → 128 ≤ b → b < 256 → character b ≡ (192 + b / 64) ∷ (128 + b % 64) ∷ []
unfolding encode_utf8
two_bytes b high few =
    let not_one : nat_lt b 128 ≡ false = grind (arith, high) in
    let two : nat_lt b 2048 ≡ true = grind (arith, few) in
    rw (not_one, two) refl

second_byte : (x y b : ℕ) (rest : List ℕ) → 194 ≤ x → x ≤ 195 → y < 192 → y + 64 * (x - 194) ≡ b → latin1 (x ∷ y ∷ rest) ≡ before (b ∷ []) (latin1 rest)
second_byte x y b rest low high below is =
    let plain : nat_lt x 128 ≡ false = grind (arith, low) in
    let lead : (x == 194 || x == 195) ≡ true = grind (arith, low, high) in
    let next : nat_lt y 192 ≡ true = grind (arith, below) in
    rw (plain, lead, next, is) refl

latin1_of : (b : ℕ) (rest : List ℕ) → b < 256 → latin1 (character b ++ rest) ≡ before (b ∷ []) (latin1 rest)
latin1_of b rest few = elim (cases_lt b 128) [
  | inl plain ↦
      let test : nat_lt b 128 ≡ true = grind (arith, plain) in
      rw (encode_ascii b plain, test) refl
  | inr high ↦
      let two : character b ≡ (192 + b / 64) ∷ (128 + b % 64) ∷ [] = two_bytes b high few in
      let back : 128 + b % 64 + 64 * (192 + b / 64 - 194) ≡ b = omega (arith, high, few) in
      rw two (second_byte (192 + b / 64) (128 + b % 64) b rest (omega (arith, high)) (omega (arith, few)) (omega arith) back)
]

texts_again : (bs : List ℕ) → list_all (λ b. nat_lt b 256) bs ≡ true → latin1 (flat_map character bs) ≡ Some bs
texts_again [] all = refl
texts_again (b ∷ bs) all =
    let tests = both (nat_lt b 256) _ all in
    let few : b < 256 = grind (arith, tests.0) in
    latin1_of b (flat_map character bs) few ∙ ap (before (b ∷ [])) (texts_again bs tests.1)

-- what a text begins with
begins : (front text : List ℕ) (p : List ℕ → Bool) → is_some_with p (after front text) ≡ true → (text ≡ front ++ drop (length front) text) × (p (drop (length front) text) ≡ true)
begins front text p e = elim (cases_Bool (bytes_eq (take (length front) text) front)) [
  | inl same ↦
      let rest : p (drop (length front) text) ≡ true = rw same at e in
      let first : take (length front) text ≡ front = same_text _ _ (sym same) in
      (sym (take-append-drop (length front) text) ∙ ap (λ (t : List ℕ). t ++ drop (length front) text) first, rest)
  | inr other ↦
      let none : false ≡ true = rw other at e in
      absurd cc
]

pairs_are : (bs text : List ℕ) → list_all (λ b. nat_lt b 256) bs ≡ true → has_pairs bs text ≡ true → hex_bytes text ≡ Some bs
pairs_are [] [] all e = refl
pairs_are [] (c ∷ text) all e = absurd cc
pairs_are (b ∷ bs) text all e =
    let first = begins (hex_pair b) text (has_pieces later_pair bs) e in
    let more = pieces_are later_pair bs (drop (length (hex_pair b)) text) first.1 in
    let whole : text ≡ hex_pair b ++ flat_map later_pair bs = first.0 ∙ ap (λ (t : List ℕ). hex_pair b ++ t) more in
    rw whole (hex_again b bs all)

pub bytes_accepted : (bs text : List ℕ) → list_all (λ b. nat_lt b 256) bs ≡ true → says 0 (shows.bytes bs) (string text) ≡ true → hex_bytes text ≡ Some bs
unfolding says
bytes_accepted bs text all e = pairs_are bs text all e

pub digits_accepted : (bs text : List ℕ) → list_all (λ b. nat_le b 99) bs ≡ true → says 0 (shows.digits bs) (string text) ≡ true → digit_pairs text ≡ Some bs
unfolding says
digits_accepted bs text all e = rw (pieces_are two_digits bs text e) (digits_again bs all)

pub text_accepted : (bs text : List ℕ) → list_all (λ b. nat_lt b 256) bs ≡ true → says 0 (shows.text bs) (string text) ≡ true → latin1 text ≡ Some bs
unfolding says
text_accepted bs text all e = rw (pieces_are character bs text e) (texts_again bs all)
