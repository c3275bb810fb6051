-- The output of a run, entry by entry: a text and a report of each, and a state that each entry changes.
use Rattle.std.specs.Prelude.{ℕ, List, [], ◌∷◌, ◌++◌}
use Rattle.n2k_wire.specs.declared.entry.Entry.{Entry}

pub record Fold (S : Type 0) : Type 0 where
  -- the text of an entry in a state; it may be empty
  pub text : S → Entry → List ℕ
  -- the report of an entry in a state
  pub report : S → Entry → List ℕ
  -- the state after the entry
  pub after : S → Entry → S
  -- the lines that a state has counted
  pub lines : S → ℕ

-- the state after all of these entries
abbrev pub after_all : {S : Type 0} → Fold S → S → List Entry → S
after_all m s [] = s
after_all m s (e ∷ es) = after_all m (m.after s e) es

-- the values for entries in a row, from a state on
abbrev pub given_from : {S : Type 0} → (S → Entry → List ℕ) → Fold S → S → List Entry → List ℕ
given_from given m s [] = []
given_from given m s (e ∷ es) = given s e ++ given_from given m (m.after s e) es

-- the texts of entries, and their reports
abbrev pub texts_from : {S : Type 0} → Fold S → S → List Entry → List ℕ
texts_from m s es = given_from m.text m s es

abbrev pub reports_from : {S : Type 0} → Fold S → S → List Entry → List ℕ
reports_from m s es = given_from m.report m s es
