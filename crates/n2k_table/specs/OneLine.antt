-- What it is to be one line.
use Rattle.std.specs.Prelude.{◌≡◌, ◌≤◌, ℕ, All, List, [], ◌∷◌, ◌++◌}

-- The text is one line: it ends in a line feed, and contains no other byte below the space.
pub record IsOneLine (text : List ℕ) : Type 0 where
  pub prefix : List ℕ
  pub spelled : text ≡ prefix ++ 10 ∷ []
  pub clean : All (λ b. 32 ≤ b) prefix
