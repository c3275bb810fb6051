-- What an error says of itself.
use Rattle.std.specs.Prelude.{◌≡◌, ℕ, List, Option, Some, None, codes, take}
use Rattle.std.specs.Str.Pattern.{FindsText}

-- a text up to this place, or all of it
abbrev pub cut_at : Option (ℕ × ℕ) → List ℕ → List ℕ
cut_at None text = text
cut_at (Some place) text = take place.0 text

-- what a text of the C library has before the number of its error
abbrev pub IsWithoutNumber : List ℕ → List ℕ → Type 0
IsWithoutNumber text words =
    (place : Option (ℕ × ℕ)) × FindsText (codes " (os error ") text place × (words ≡ cut_at place text)
