-- Texts in JSON.
use Rattle.std.specs.Prelude.{ℕ, ◌+◌, ◌/◌, ◌%◌, codes, List, [], ◌∷◌, slice_index, map}
use Rattle.std.specs.List.{join_with_byte}
use Rattle.std.specs.Char.{encode_utf8}
use Rattle.serde_json.specs.Data.{string}
use Rattle.serde_json.specs.Written.{compact_text}

-- a text, as `serde_json` writes a string
unfoldable pub text_json : List ℕ → List ℕ
text_json text = compact_text (string text)

-- the character of a number, in UTF-8
abbrev pub character : ℕ → List ℕ
character = encode_utf8

-- the hexadecimal digits, in upper case
abbrev pub hex_digits : List ℕ
hex_digits = codes "0123456789ABCDEF"

-- a byte as two hexadecimal digits
abbrev pub hex_pair : ℕ → List ℕ
hex_pair b = slice_index hex_digits (b / 16) ∷ slice_index hex_digits (b % 16) ∷ []

-- a byte below 100 as two decimal digits
abbrev pub two_digits : ℕ → List ℕ
two_digits b = (48 + b / 10) ∷ (48 + b % 10) ∷ []

-- the space
abbrev pub space : ℕ
space = 32

-- bytes as pairs of digits, with a space between
abbrev pub hex_pairs : List ℕ → List ℕ
hex_pairs bytes = join_with_byte space (map hex_pair bytes)
