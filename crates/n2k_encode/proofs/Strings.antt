-- A string of characters of one byte, or of UTF-8, that a field shows is accepted.
use Rattle.std.proofs.Common.{◌≡◌, ℕ, suc, ◌-◌, ◌≤◌, Bool, true, false, ◌&&◌, nat_le, nat_lt, List, [], ◌∷◌, length, Option, Some, None, is_some, refl, sym, arith, inl, inr, ◌⊎◌}
use Rattle.std.specs.List.{list_all}
use Rattle.std.specs.Str.{is_utf8}
use Rattle.std.specs.Cmp.Lexicographic.{same_text}
use Rattle.std.proofs.lemmas.Bool.{cases_Bool}
use Rattle.json.specs.Json.{string}
use Rattle.n2k_table.specs.declared.string_place.Form.{Form}
use Rattle.n2k_table.specs.declared.string_place.Form.TheVariants.{Lau, Lz}
use Rattle.n2k_table.specs.Shown.{is_filling, shown_characters, trimmed}
use Rattle.n2k_table.specs.Shown as shows
use Rattle.n2k_encode.specs.Says.{says}
use Rattle.n2k_encode.specs.Steps.{first_of}
use Rattle.n2k_encode.specs.Texts.{ends_full, latin1, latin1_string, narrow_string}
use Rattle.n2k_encode.specs.Value.{first_string, wide_string}
use Rattle.n2k_encode.proofs.Again.{text_accepted}
use Rattle.n2k_encode.proofs.Numbers.{at_most, both}

ends_kept : (a b : Bool) → b ≡ true → (a && b) ≡ false → a ≡ false
ends_kept true b all e = absurd cc
ends_kept false b all e = refl

all_filler : (bs : List ℕ) → trimmed bs ≡ [] → list_all is_filling bs ≡ true
all_filler [] e = refl
all_filler (b ∷ bs) e = elim (cases_Bool (list_all is_filling (b ∷ bs))) [
  | inl all ↦ all
  | inr other ↦
      let no : (b ∷ trimmed bs) ≡ [] = rw other at e in
      absurd cc
]

full_more : (b : ℕ) (t : List ℕ) → ends_full t ≡ true → ends_full (b ∷ t) ≡ true
full_more b [] e = absurd cc
full_more b (c ∷ cs) e =
    let place : length (b ∷ c ∷ cs) - 1 ≡ suc (length (c ∷ cs) - 1) = omega arith in
    rw place e

full_one : (b : ℕ) → is_filling b ≡ false → ends_full (b ∷ []) ≡ true
full_one b e = rw e refl

-- what is trimmed is empty, or does not end with filler
trimmed_full : (bs : List ℕ) → (trimmed bs ≡ []) ⊎ (ends_full (trimmed bs) ≡ true)
trimmed_full [] = inl refl
trimmed_full (b ∷ bs) = elim (cases_Bool (list_all is_filling (b ∷ bs))) [
  | inl all ↦ inl (rw all refl)
  | inr other ↦ elim (trimmed_full bs) [
    | inl none ↦
        let rest : list_all is_filling bs ≡ true = all_filler bs none in
        let kept : is_filling b ≡ false = ends_kept (is_filling b) (list_all is_filling bs) rest other in
        let is : trimmed (b ∷ bs) ≡ b ∷ [] = rw (other, none) refl in
        inr (rw is (full_one b kept))
    | inr full ↦
        let is : trimmed (b ∷ bs) ≡ b ∷ trimmed bs = rw other refl in
        inr (rw is (full_more b (trimmed bs) full))
  ]
]

trimmed_few : (bs : List ℕ) → length (trimmed bs) ≤ length bs
trimmed_few [] = omega arith
trimmed_few (b ∷ bs) = elim (cases_Bool (list_all is_filling (b ∷ bs))) [
  | inl all ↦ rw all (omega arith)
  | inr other ↦ rw other (omega (arith, trimmed_few bs))
]

trimmed_bytes : (p : ℕ → Bool) (bs : List ℕ) → list_all p bs ≡ true → list_all p (trimmed bs) ≡ true
trimmed_bytes p [] all = refl
trimmed_bytes p (b ∷ bs) all = elim (cases_Bool (list_all is_filling (b ∷ bs))) [
  | inl filler ↦ rw filler refl
  | inr other ↦
      let tests = both (p b) (list_all p bs) all in
      rw (other, tests.0, trimmed_bytes p bs tests.1) refl
]

narrow_is : (form : Form) (t : List ℕ) → ends_full t ≡ true → length t ≤ 253 → is_some (narrow_string form t) ≡ true
narrow_is Lau t full few = rw (full, at_most (length t) 253 few) refl
narrow_is Lz t full few = rw (full, at_most (length t) 254 (omega (arith, few))) refl

some_first : {A : Type 0} → (a b : Option A) → is_some a ≡ true → is_some (first_of a b) ≡ true
some_first None b e = absurd cc
some_first (Some x) b e = refl

pub some_second : {A : Type 0} → (a b : Option A) → is_some b ≡ true → is_some (first_of a b) ≡ true
some_second None b e = e
some_second (Some x) b e = refl

utf8_is : (form : Form) (t text : List ℕ) → ends_full t ≡ true → length t ≤ 253 → says 0 (shows.utf8 t) (string text) ≡ true → is_some (first_string form text) ≡ true
unfolding says
utf8_is form t text full few e =
    let same : text ≡ t = same_text _ _ (sym e) in
    rw same (some_first (narrow_string form t) (first_of (latin1_string form t) (wide_string form t)) (narrow_is form t full few))

bytes_are : (form : Form) (t text : List ℕ) → ends_full t ≡ true → length t ≤ 253 → list_all (λ b. nat_lt b 256) t ≡ true → is_utf8 t ≡ false → says 0 (shows.text t) (string text) ≡ true → is_some (first_string form text) ≡ true
bytes_are form t text full few bytes other e =
    let read : latin1 text ≡ Some t = text_accepted t text bytes e in
    let room : nat_le (length t) 255 ≡ true = at_most (length t) 255 (omega (arith, few)) in
    let string_is : latin1_string form text ≡ narrow_string form t = rw (read, room, other) refl in
    some_second (narrow_string form text) (first_of (latin1_string form text) (wide_string form text))
    (some_first (latin1_string form text) (wide_string form text) (rw string_is (narrow_is form t full few)))

shown_is : (form : Form) (t text : List ℕ) → (t ≡ []) ⊎ (ends_full t ≡ true) → length t ≤ 253 → list_all (λ b. nat_lt b 256) t ≡ true → says 0 (shown_characters t) (string text) ≡ true → is_some (first_string form text) ≡ true
unfolding says
shown_is form [] text full few bytes e = absurd cc
shown_is form (b ∷ bs) text full few bytes e = elim full [
  | inl none ↦ absurd cc
  | inr ends ↦ elim (cases_Bool (is_utf8 (b ∷ bs))) [
    | inl valid ↦ utf8_is form (b ∷ bs) text ends few (rw valid at e)
    | inr other ↦ bytes_are form (b ∷ bs) text ends few bytes other (rw other at e)
  ]
]

pub characters_accepted : (form : Form) (bs text : List ℕ) → length bs ≤ 253 → list_all (λ b. nat_lt b 256) bs ≡ true → says 0 (shown_characters (trimmed bs)) (string text) ≡ true → is_some (first_string form text) ≡ true
characters_accepted form bs text few bytes e = shown_is form (trimmed bs) text (trimmed_full bs) (omega (arith, few, trimmed_few bs)) (trimmed_bytes (λ b. nat_lt b 256) bs bytes) e
