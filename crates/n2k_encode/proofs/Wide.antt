-- A string of UTF-16 that a field shows is accepted.
use Rattle.std.proofs.Common.{◌≡◌, ℕ, suc, ◌+◌, ◌-◌, ◌*◌, ◌<◌, ◌≤◌, true, false, ◌&&◌, nat_le, nat_lt, List, [], ◌∷◌, ◌++◌, length, length-append, is_some, unwrap_or, refl, ap, subst, sym, ◌∙◌, arith, inl, inr}
use Rattle.std.specs.List.{flat_map, list_all}
use Rattle.std.specs.Str.{chars}
use Rattle.std.specs.Char.Utf16.{utf16_chars, utf16_lossy_chars, lone_unit_char, surrogate_pair_char, is_high_surrogate, is_low_surrogate}
use Rattle.std.proofs.Math.Utf8.{scalar, scalars, encodes}
use Rattle.std.proofs.lemmas.Bool.{cases_Bool}
use Rattle.std.proofs.lemmas.Str.{chars-encodes}
use Rattle.json.specs.Json.{string}
use Rattle.n2k_table.specs.declared.string_place.Form.TheVariants.{Lau}
use Rattle.n2k_table.specs.Shown as shows
use Rattle.n2k_table.specs.Strings.{is_filling_unit, units}
use Rattle.n2k_table.specs.Text.{character}
use Rattle.n2k_encode.specs.Says.{says}
use Rattle.n2k_encode.specs.Steps.{first_of}
use Rattle.n2k_encode.specs.Texts.{ends_with_letter, latin1_string, narrow_string, utf16_string, wide_character}
use Rattle.n2k_encode.specs.Value.{first_string}
use Rattle.n2k_encode.proofs.Numbers.{at_most, both}
use Rattle.n2k_encode.proofs.Pieces.{pieces_are}
use Rattle.n2k_encode.proofs.Strings.{some_second}

-- the character of a lone unit
lone : ℕ → ℕ
unfolding utf16_chars
lone u = unwrap_or (lone_unit_char u) 0xFFFD

paired : (u v : ℕ) (us : List ℕ) → (is_high_surrogate u && is_low_surrogate v) ≡ true → utf16_lossy_chars (u ∷ v ∷ us) ≡ surrogate_pair_char u v ∷ utf16_lossy_chars us
unfolding utf16_chars
paired u v us is = rw is refl

alone : (u v : ℕ) (us : List ℕ) → (is_high_surrogate u && is_low_surrogate v) ≡ false → utf16_lossy_chars (u ∷ v ∷ us) ≡ lone u ∷ utf16_lossy_chars (v ∷ us)
unfolding utf16_chars lone
alone u v us isnt = rw isnt refl

at_last : (u : ℕ) → utf16_lossy_chars (u ∷ []) ≡ lone u ∷ []
unfolding utf16_chars lone
at_last u = refl

none_left : utf16_lossy_chars [] ≡ []
unfolding utf16_chars
none_left = refl

lone_scalar : (u : ℕ) → u < 65536 → scalar (lone u) ≡ true
unfolding lone
lone_scalar u few = grind (arith, few)

lone_small : (u : ℕ) → u < 65536 → lone u < 65536
unfolding lone
lone_small u few = grind (arith, few)

lone_kept : (u : ℕ) → is_filling_unit u ≡ false → is_filling_unit (lone u) ≡ false
unfolding lone
lone_kept u kept = grind (arith, kept)

pair_scalar : (u v : ℕ) → (is_high_surrogate u && is_low_surrogate v) ≡ true → scalar (surrogate_pair_char u v) ≡ true
pair_scalar u v is = grind (arith, is)

pair_kept : (u v : ℕ) → is_filling_unit (surrogate_pair_char u v) ≡ false
pair_kept u v = grind arith

small_two : (c : ℕ) → c < 65536 → length (wide_character c) ≡ 2
small_two c few =
    let test : nat_lt c 65536 ≡ true = grind (arith, few) in
    rw test refl

any_four : (c : ℕ) → length (wide_character c) ≤ 4
any_four c = elim (cases_Bool (nat_lt c 65536)) [ inl one ↦ rw one (omega arith) | inr two ↦ rw two (omega arith) ]

-- characters, and how many units they have at most
record AreWide (cs : List ℕ) (n : ℕ) : Type 0 where
  valid : scalars cs ≡ true
  few : length (flat_map wide_character cs) ≤ 2 * n

one_more : (c : ℕ) (cs : List ℕ) (m n k : ℕ) → scalar c ≡ true → length (wide_character c) ≤ 2 * m → m + n ≡ k → AreWide cs n → AreWide (c ∷ cs) k
one_more c cs m n k valid first sum rest = record {
  valid = rw (valid, rest.valid) refl;
  few = omega (arith, first, rest.few, sum, length-append (wide_character c) (flat_map wide_character cs));
}

none_wide : AreWide [] 0
none_wide = record { valid = refl; few = omega arith }

are_wide : (us : List ℕ) → list_all (λ u. nat_lt u 65536) us ≡ true → AreWide (utf16_lossy_chars us) (length us)
are_wide [] all = subst (λ (cs : List ℕ). AreWide cs 0) (sym none_left) none_wide
are_wide (u ∷ []) all =
    let small : u < 65536 = grind (arith, all) in
    let one = one_more (lone u) [] 1 0 (length (u ∷ [])) (lone_scalar u small) (omega (arith, small_two (lone u) (lone_small u small))) (omega arith) none_wide in
    subst (λ (cs : List ℕ). AreWide cs (length (u ∷ []))) (sym (at_last u)) one
are_wide (u ∷ v ∷ us) all =
    let first = both (nat_lt u 65536) _ all in
    let second = both (nat_lt v 65536) _ first.1 in
    let small : u < 65536 = grind (arith, first.0) in
    elim (cases_Bool (is_high_surrogate u && is_low_surrogate v)) [
      | inl pair ↦
          let c = surrogate_pair_char u v in
          let all_of = one_more c (utf16_lossy_chars us) 2 (length us) (length (u ∷ v ∷ us)) (pair_scalar u v pair) (omega (arith, any_four c)) (omega arith) (are_wide us second.1) in
          subst (λ (cs : List ℕ). AreWide cs (length (u ∷ v ∷ us))) (sym (paired u v us pair)) all_of
      | inr other ↦
          let all_of = one_more (lone u) (utf16_lossy_chars (v ∷ us)) 1 (length (v ∷ us)) (length (u ∷ v ∷ us)) (lone_scalar u small) (omega (arith, small_two (lone u) (lone_small u small))) (omega arith) (are_wide (v ∷ us) first.1) in
          subst (λ (cs : List ℕ). AreWide cs (length (u ∷ v ∷ us))) (sym (alone u v us other)) all_of
    ]

letters_more : (c : ℕ) (cs : List ℕ) → ends_with_letter cs ≡ true → ends_with_letter (c ∷ cs) ≡ true
letters_more c [] e = absurd cc
letters_more c (d ∷ cs) e =
    let place : length (c ∷ d ∷ cs) - 1 ≡ suc (length (d ∷ cs) - 1) = omega arith in
    rw place e

letters_less : (c d : ℕ) (cs : List ℕ) → ends_with_letter (c ∷ d ∷ cs) ≡ true → ends_with_letter (d ∷ cs) ≡ true
letters_less c d cs e =
    let place : length (c ∷ d ∷ cs) - 1 ≡ suc (length (d ∷ cs) - 1) = omega arith in
    rw place at e

letter_one : (c : ℕ) → is_filling_unit c ≡ false → ends_with_letter (c ∷ []) ≡ true
letter_one c kept = rw kept refl

one_letter : (c : ℕ) → ends_with_letter (c ∷ []) ≡ true → is_filling_unit c ≡ false
one_letter c e = grind (arith, e)

-- a text whose last UTF-16 unit is not padding ends with a character that is not padding
last_wide : (us : List ℕ) → ends_with_letter us ≡ true → ends_with_letter (utf16_lossy_chars us) ≡ true
last_wide [] e = absurd cc
last_wide (u ∷ []) e = subst (λ (cs : List ℕ). ends_with_letter cs ≡ true) (sym (at_last u)) (letter_one (lone u) (lone_kept u (one_letter u e)))
last_wide (u ∷ v ∷ []) e = elim (cases_Bool (is_high_surrogate u && is_low_surrogate v)) [
  | inl pair ↦
      let is : utf16_lossy_chars (u ∷ v ∷ []) ≡ surrogate_pair_char u v ∷ [] = paired u v [] pair ∙ ap (λ (cs : List ℕ). surrogate_pair_char u v ∷ cs) none_left in
      subst (λ (cs : List ℕ). ends_with_letter cs ≡ true) (sym is) (letter_one (surrogate_pair_char u v) (pair_kept u v))
  | inr other ↦ subst (λ (cs : List ℕ). ends_with_letter cs ≡ true) (sym (alone u v [] other)) (letters_more (lone u) (utf16_lossy_chars (v ∷ [])) (last_wide (v ∷ []) (letters_less u v [] e)))
]
last_wide (u ∷ v ∷ w ∷ us) e = elim (cases_Bool (is_high_surrogate u && is_low_surrogate v)) [
  | inl pair ↦
      let rest = last_wide (w ∷ us) (letters_less v w us (letters_less u v (w ∷ us) e)) in
      subst (λ (cs : List ℕ). ends_with_letter cs ≡ true) (sym (paired u v (w ∷ us) pair)) (letters_more (surrogate_pair_char u v) (utf16_lossy_chars (w ∷ us)) rest)
  | inr other ↦ subst (λ (cs : List ℕ). ends_with_letter cs ≡ true) (sym (alone u v (w ∷ us) other)) (letters_more (lone u) (utf16_lossy_chars (v ∷ w ∷ us)) (last_wide (v ∷ w ∷ us) (letters_less u v (w ∷ us) e)))
]

units_small : (bs : List ℕ) → list_all (λ b. nat_lt b 256) bs ≡ true → list_all (λ u. nat_lt u 65536) (units bs) ≡ true
units_small [] all = refl
units_small (low ∷ []) all = refl
units_small (low ∷ high ∷ bs) all =
    let first = both (nat_lt low 256) _ all in
    let second = both (nat_lt high 256) _ first.1 in
    let a : low < 256 = grind (arith, first.0) in
    let b : high < 256 = grind (arith, second.0) in
    let unit : nat_lt (low + 256 * high) 65536 ≡ true = grind (arith, a, b) in
    rw (unit, units_small bs second.1) refl

units_few : (bs : List ℕ) → 2 * length (units bs) ≤ length bs
units_few [] = omega arith
units_few (low ∷ []) = omega arith
units_few (low ∷ high ∷ bs) = omega (arith, units_few bs)

spelled_as : (cs : List ℕ) → flat_map character cs ≡ encodes cs
spelled_as [] = refl
spelled_as (c ∷ cs) = ap (λ (t : List ℕ). character c ++ t) (spelled_as cs)

utf16_is : (cs text : List ℕ) → text ≡ flat_map character cs → scalars cs ≡ true → ends_with_letter cs ≡ true → length (flat_map wide_character cs) ≤ 253 → is_some (utf16_string text) ≡ true
unfolding utf16_string
utf16_is cs text is valid ends few =
    let read : chars text ≡ cs = ap chars (is ∙ spelled_as cs) ∙ chars-encodes cs valid in
    let room : nat_le (length ((length (flat_map wide_character cs) + 2) ∷ 0 ∷ flat_map wide_character cs)) 255 ≡ true = at_most _ 255 (omega (arith, few)) in
    rw (read, ends, room) refl

pub wide_accepted : (bs text : List ℕ) → length bs ≤ 253 → list_all (λ b. nat_lt b 256) bs ≡ true → ends_with_letter (units bs) ≡ true → says 0 (shows.wide bs) (string text) ≡ true → is_some (first_string Lau text) ≡ true
unfolding says
wide_accepted bs text few bytes ends e =
    let cs = utf16_lossy_chars (units bs) in
    let spelled = pieces_are character (utf16_lossy_chars (units bs)) text e in
    let all = are_wide (units bs) (units_small bs bytes) in
    let found = utf16_is (utf16_lossy_chars (units bs)) text spelled all.valid (last_wide (units bs) ends) (omega (arith, all.few, units_few bs, few)) in
    some_second (narrow_string Lau text) (first_of (latin1_string Lau text) (utf16_string text)) (some_second (latin1_string Lau text) (utf16_string text) found)
