-- A text with the pieces of numbers is these pieces, one after the other.
use Rattle.std.proofs.Common.{◌≡◌, ℕ, true, false, List, [], ◌∷◌, ◌++◌, length, take, drop, refl, sym, ap, ◌∙◌, inl, inr}
use Rattle.std.specs.Cmp.Lexicographic.{same_text}
use Rattle.std.specs.List.{flat_map}
use Rattle.std.specs.Str.{bytes_eq}
use Rattle.std.proofs.lemmas.Bool.{cases_Bool}
use Rattle.std.proofs.lemmas.List.{take-append-drop}
use Rattle.std.specs.Char.Utf16.{utf16_chars, utf16_lossy_chars}
use Rattle.n2k_table.specs.Strings.{units}
use Rattle.n2k_table.specs.Text.{character}
use Rattle.n2k_encode.specs.Says.{has_pieces, is_empty}

is_empty-nil : (text : List ℕ) → is_empty text ≡ true → text ≡ []
is_empty-nil [] e = refl
is_empty-nil (b ∷ bs) e = absurd cc

pub pieces_are : (piece : ℕ → List ℕ) (ns text : List ℕ) → has_pieces piece ns text ≡ true → text ≡ flat_map piece ns
pieces_are piece [] text e = is_empty-nil text e
pieces_are piece (n ∷ ns) text e =
    let prefix = piece n in
    elim (cases_Bool (bytes_eq (take (length prefix) text) prefix)) [
      | inl same ↦
          let rest : has_pieces piece ns (drop (length prefix) text) ≡ true = rw same at e in
          let begins : take (length prefix) text ≡ prefix = same_text _ _ (sym same) in
          sym (take-append-drop (length prefix) text) ∙ ap (λ (t : List ℕ). t ++ drop (length prefix) text) begins ∙ ap (λ (t : List ℕ). prefix ++ t) (pieces_are piece ns (drop (length prefix) text) rest)
      | inr other ↦
          let none : false ≡ true = rw other at e in
          absurd cc
    ]

-- of no units nothing is left
pub no_characters : (bs text : List ℕ) → units bs ≡ [] → has_pieces character (utf16_lossy_chars (units bs)) text ≡ is_empty text
unfolding utf16_chars
no_characters bs text none = ap (λ us. has_pieces character (utf16_lossy_chars us) text) none
