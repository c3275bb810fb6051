-- The parts of a line, by the bytes between them.
use Rattle.std.specs.Prelude.{ℕ, ◌+◌, not, ◌==◌, if◌then◌else◌, List, [], ◌∷◌, take, drop, Option, Some, None}
use Rattle.std.specs.Prelude.{option_map, position}

-- the bytes before the first separator, and the bytes after it
unfoldable pub cut_at : ℕ → List ℕ → Option (List ℕ × List ℕ)
cut_at separator bytes = option_map (λ i. (take i bytes, drop (i + 1) bytes)) (position (λ b. b == separator) bytes)

-- the bytes after this byte, if they begin with it
unfoldable pub after_byte : ℕ → List ℕ → Option (List ℕ)
after_byte first [] = None
after_byte first (b ∷ bytes) = if b == first then Some bytes else None

-- the bytes from the first on that isn't a space, if there is one
unfoldable pub skip_spaces : List ℕ → Option (List ℕ)
skip_spaces bytes = option_map (λ i. drop i bytes) (position (λ b. not (b == 32)) bytes)
