-- Bytes taken from a source into a vector.
use Rattle.std.specs.Prelude.{◌≡◌, ℕ, List, ◌++◌, Option}
use Rattle.std.specs.Io.KnownBytes.{Consumes}

-- a vector gained bytes at its end, which a source gave
pub record Gains (before after : List ℕ) (old new : Option (List ℕ)) : Type 0 where
  pub gained : List ℕ
  pub appended : after ≡ before ++ gained
  pub given : Consumes old new gained
