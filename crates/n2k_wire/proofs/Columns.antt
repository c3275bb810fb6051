-- A text cut at the first separator, and the same text as a list of columns.
use Rattle.std.proofs.Common.{◌≡◌, ℕ, ◌+◌, Bool, List, [], ◌∷◌, length, Some, None, refl, ap, ◌∙◌, arith, inl, inr, position, ◌==◌}
use Rattle.std.specs.List.{position_or_len, slice_split, onto_first}
use Rattle.std.proofs.lemmas.Bool.{cases_Bool}
use Rattle.std.proofs.lemmas.List.Sums.{prefix_len-le-length}
use Rattle.std.proofs.lemmas.List.Splits.{slice_split-cons_no, slice_split_first}
use Rattle.n2k_wire.specs.Cuts.{cut_at}

-- a byte that is not found
pub none_found : (p : ℕ → Bool) (xs : List ℕ) → None ≡ position p xs → length xs ≡ position_or_len p xs
none_found p xs e = grind (arith, prefix_len-le-length)

split_none : (p : ℕ → Bool) (xs : List ℕ) → length xs ≡ position_or_len p xs → slice_split p xs ≡ xs ∷ []
split_none p [] e = refl
split_none p (x ∷ xs) e =
    elim (cases_Bool (p x)) [
      | inl passes ↦ absurd (let none : position_or_len p (x ∷ xs) ≡ 0 = rw passes refl in omega arith)
      | inr fails ↦
          let more : position_or_len p (x ∷ xs) ≡ 1 + position_or_len p xs = rw fails refl in
          let rest : length xs ≡ position_or_len p xs = omega arith in
          slice_split-cons_no p x xs fails ∙ ap (onto_first x) (split_none p xs rest)
    ]

-- without a separator, the text is the one column
pub columns_uncut : (separator : ℕ) (text : List ℕ) → cut_at separator text ≡ None → slice_split (λ b. b == separator) text ≡ text ∷ []
unfolding cut_at
columns_uncut separator text e = grind (arith, split_none, prefix_len-le-length)

-- the first column is the text before the first separator
pub columns_cut : (separator : ℕ) (text before after : List ℕ) → cut_at separator text ≡ Some (before, after)
    → slice_split (λ b. b == separator) text ≡ before ∷ slice_split (λ b. b == separator) after
unfolding cut_at
columns_cut separator text before after e = grind (arith, slice_split_first)
