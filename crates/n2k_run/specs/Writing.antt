-- The part of a text that a sink has got, and the part that is still to come.
use Rattle.std.specs.Prelude.{◌≡◌, ℕ, List, ◌++◌, Option}
use Rattle.std.specs.Io.KnownBytes.{Appends}

-- some prefix of the text was appended to the sink's content, and this is still to come
pub record Owes (old new : Option (List ℕ)) (text rest : List ℕ) : Type 0 where
  pub prefix : List ℕ
  pub appended : Appends old new prefix
  pub still : text ≡ prefix ++ rest

-- a prefix of the text was appended to the sink's content
abbrev pub AppendsPrefix : Option (List ℕ) → Option (List ℕ) → List ℕ → Type 0
AppendsPrefix old new text = (rest : List ℕ) × Owes old new text rest
