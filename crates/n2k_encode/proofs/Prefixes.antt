-- Bytes before what is still to come.
use Rattle.std.proofs.Common.{◌≡◌, ℕ, zero, suc, ◌+◌, ◌-◌, false, List, [], ◌∷◌, ◌++◌, length, drop, get_or, Option, Some, None, is_some, refl, ap, append_assoc, append-nil, length-append, add-one, drop-cons, arith, sym, ◌∙◌, ◌≤◌, ◌<◌, inl, inr}
use Rattle.std.specs.List.{flat_map, slice_get}
use Rattle.std.specs.Str.{is_utf8, IsUtf8}
use Rattle.std.proofs.lemmas.Bool.{cases_Bool}
use Rattle.std.proofs.lemmas.List.{length-replicate, replicate_more}
use Rattle.std.proofs.lemmas.Str.{is_utf8-from_IsUtf8, IsUtf8-from_is_utf8}
use Rattle.n2k_encode.specs.Texts.{within, before, most_bytes, latin1, digit_pairs, some_pairs, later_pairs, last_letter, wide_character}

pub before_more : (xs ys : List ℕ) (o : Option (List ℕ)) → before (xs ++ ys) o ≡ before xs (before ys o)
before_more xs ys None = refl
before_more xs ys (Some bs) = ap Some (append_assoc xs ys bs)

pub before_none : (o : Option (List ℕ)) → before [] o ≡ o
before_none None = refl
before_none (Some bs) = refl

-- nothing fits after so many bytes
pub no_room : (xs : List ℕ) (b : ℕ) (o : Option (List ℕ)) → length xs ≡ most_bytes → within (before xs (before (b ∷ []) o)) ≡ None
no_room xs b None full = refl
no_room xs b (Some bs) full = grind (arith, full, length-append xs (b ∷ bs))

-- nothing is to come
pub latin1_end : (prefix rest : List ℕ) → length rest ≡ 0 → length prefix ≤ most_bytes → within (before prefix (latin1 rest)) ≡ Some prefix
latin1_end prefix [] none few = grind (arith, few, append-nil prefix)
latin1_end prefix (b ∷ bs) none few = absurd (omega (arith, none))

pub digits_end : (prefix rest : List ℕ) → length rest ≡ 0 → length prefix ≤ most_bytes → within (before prefix (digit_pairs rest)) ≡ Some prefix
digits_end prefix [] none few = grind (arith, few, append-nil prefix)
digits_end prefix (b ∷ bs) none few = absurd (omega (arith, none))

pub pairs_end : (prefix rest : List ℕ) → length rest ≡ 0 → within (before prefix (some_pairs rest)) ≡ None
pairs_end prefix [] none = refl
pairs_end prefix (b ∷ bs) none = absurd (omega (arith, none))

pub nothing_more : (prefix : List ℕ) → length prefix ≤ most_bytes → within (before prefix (Some [])) ≡ Some prefix
nothing_more prefix few = grind (arith, few, append-nil prefix)

pub later_end : (prefix rest : List ℕ) → length rest ≡ 0 → length prefix ≤ most_bytes → within (before prefix (later_pairs rest)) ≡ Some prefix
later_end prefix [] none few = grind (arith, few, append-nil prefix)
later_end prefix (b ∷ bs) none few = absurd (omega (arith, none))

pub is_some-before : (b : ℕ) (o : Option (List ℕ)) → is_some (before (b ∷ []) o) ≡ is_some o
is_some-before b None = refl
is_some-before b (Some bs) = refl

pub ruleset prefix_rules = (is_some-before, before_more, before_none, no_room, latin1_end, digits_end, pairs_end, later_end)

-- UTF-8 as a test
pub is_utf8_not : (bs : List ℕ) → ¬ IsUtf8 bs → is_utf8 bs ≡ false
is_utf8_not bs not = elim (cases_Bool (is_utf8 bs)) [ inl valid ↦ absurd (not (IsUtf8-from_is_utf8 bs valid)) | inr other ↦ other ]

pub ruleset utf8_rules = (is_utf8-from_IsUtf8, is_utf8_not)

-- a text of few bytes, and one with too many
pub within_some : (xs ys : List ℕ) → Some xs ≡ within (Some ys) → xs ≡ ys
within_some xs ys e = grind (arith, e)

pub within_none : (ys more : List ℕ) → None ≡ within (Some ys) → within (Some (ys ++ more)) ≡ None
within_none ys more e = grind (arith, e, length-append ys more)

pub at_place : (cs : List ℕ) (n c : ℕ) → n < length cs → c ≡ get_or cs n c → slice_get cs n ≡ Some c
at_place [] n c within at = absurd (omega (arith, within))
at_place (d ∷ cs) zero c within at = ap Some (sym at)
at_place (d ∷ cs) (suc n) c within at = at_place cs n c (omega (arith, within)) at

pub last_found : (cs : List ℕ) (n : ℕ) (last : Option ℕ) → n ≡ length cs → (n ≡ 0 → last ≡ None) → (0 < n → last ≡ slice_get cs (n - 1)) → last ≡ last_letter cs
last_found [] n last all none some = none all
last_found (d ∷ cs) n last all none some = some (omega (arith, all)) ∙ ap (λ m. slice_get (d ∷ cs) (m - 1)) all

drop_here : (cs : List ℕ) (n c : ℕ) → n < length cs → c ≡ get_or cs n c → drop n cs ≡ c ∷ drop (n + 1) cs
drop_here cs n c within at = rw (add-one, drop-cons cs n c) (ap (λ d. d ∷ drop (suc n) cs) (sym at))

-- a character more in UTF-16
pub letter_next : (cs : List ℕ) (n c : ℕ) (prefix more : List ℕ) → n < length cs → c ≡ get_or cs n c → Some more ≡ within (Some (prefix ++ wide_character c))
    → within (before more (Some (flat_map wide_character (drop (n + 1) cs)))) ≡ within (before prefix (Some (flat_map wide_character (drop n cs))))
letter_next cs n c prefix more inside at e =
    let is : more ≡ prefix ++ wide_character c = within_some more (prefix ++ wide_character c) e in
    let here : drop n cs ≡ c ∷ drop (n + 1) cs = drop_here cs n c inside at in
    rw (is, here) (ap (λ x. within (Some x)) (append_assoc prefix (wide_character c) (flat_map wide_character (drop (n + 1) cs))))

pub letter_none : (cs : List ℕ) (n c : ℕ) (prefix : List ℕ) → n < length cs → c ≡ get_or cs n c → None ≡ within (Some (prefix ++ wide_character c))
    → within (before prefix (Some (flat_map wide_character (drop n cs)))) ≡ None
letter_none cs n c prefix inside at e =
    let here : drop n cs ≡ c ∷ drop (n + 1) cs = drop_here cs n c inside at in
    rw here (ap (λ x. within (Some x)) (sym (append_assoc prefix (wide_character c) (flat_map wide_character (drop (n + 1) cs)))) ∙ within_none (prefix ++ wide_character c) (flat_map wide_character (drop (n + 1) cs)) e)

pub ruleset fill_rules = (length-replicate, replicate_more)
