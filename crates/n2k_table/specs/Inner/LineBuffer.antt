-- A line that is appended to, and how many of its last bytes are in a room.
use Rattle.std.specs.Prelude.{◌≡◌, ℕ, Bool, true, false, List, [], ◌∷◌, ◌++◌, nat_eq, ◌&&◌, Result, Ok, Err}

pub record LineBufferParts : Type 0 where
  pub items : List ℕ
  pub held : ℕ

-- whether a text begins with these bytes
unfoldable pub begins : List ℕ → List ℕ → Bool
begins [] text = true
begins (x ∷ xs) [] = false
begins (x ∷ xs) (y ∷ ys) = nat_eq x y && begins xs ys

-- these bytes are appended; a refused text still begins with what was there before
abbrev pub AddsText : {T E : Type 0} → Result T E → List ℕ → List ℕ → List ℕ → Type 0
AddsText (Ok done) old new bytes = new ≡ old ++ bytes
AddsText (Err refused) old new bytes = begins old new ≡ true
