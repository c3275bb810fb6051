-- The bytes that wait for the caller, and the line of the next message among them.
use Rattle.std.specs.Prelude.{◌≡◌, ℕ, if◌then◌else◌, List, [], ◌∷◌, ◌++◌}
use Rattle.n2k_run.specs.Lines.{is_line_feed}

-- the bytes, and how often none could be added because memory was refused
pub record Waiting : Type 0 where
  pub held : List ℕ
  pub failed_calls : ℕ

-- bytes up to and including the first line feed: all if there is none
abbrev pub first_line : List ℕ → List ℕ
first_line [] = []
first_line (byte ∷ bytes) = if is_line_feed byte then byte ∷ [] else byte ∷ first_line bytes

-- of this text, after the part that was handed out, the next line is handed out
pub record IsNextLine (text handed_out line : List ℕ) : Type 0 where
  pub rest : List ℕ
  pub is : text ≡ handed_out ++ line ++ rest
  pub one : line ≡ first_line (line ++ rest)
