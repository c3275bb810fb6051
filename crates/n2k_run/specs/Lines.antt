-- The lines of a log: the bytes between line feeds, each without one carriage return at its end.
use Rattle.std.specs.Prelude.{◌==◌, ◌-◌, ℕ, Bool, not, if◌then◌else◌, List, [], ◌∷◌, length, take, map, slice_index}
use Rattle.std.specs.List.{slice_split, suffix_len}

-- the byte that ends a line
abbrev pub line_feed : ℕ
line_feed = 10

-- the byte that may come before it
abbrev pub carriage_return : ℕ
carriage_return = 13

-- a test for the end of a line
abbrev pub is_line_feed : ℕ → Bool
is_line_feed byte = byte == line_feed

-- the pieces, without the last if it is empty
abbrev pub without_last_empty : List (List ℕ) → List (List ℕ)
without_last_empty [] = []
without_last_empty ([] ∷ []) = []
without_last_empty (chunk ∷ chunks) = chunk ∷ without_last_empty chunks

-- the piece, without one carriage return at its end
abbrev pub without_return : List ℕ → List ℕ
without_return chunk =
    if slice_index chunk (length chunk - 1) == carriage_return then take (length chunk - 1) chunk else chunk

-- the pieces between line feeds, a last empty one left out, each without one carriage return at its end
abbrev pub lines : List ℕ → List (List ℕ)
lines bytes = map without_return (without_last_empty (slice_split is_line_feed bytes))

-- the bytes up to and including the last line feed, none without a line feed
abbrev pub whole_lines : List ℕ → List ℕ
whole_lines bytes = take (length bytes - suffix_len (λ byte. not (is_line_feed byte)) bytes) bytes
