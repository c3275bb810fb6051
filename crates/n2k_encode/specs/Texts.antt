-- The bytes of texts: docs/PROFILE.md, "The fields".
use Rattle.std.specs.Prelude.{ℕ, ◌+◌, ◌-◌, ◌*◌, ◌/◌, ◌%◌, ◌==◌, nat_lt, nat_le, Bool, false, not, ◌&&◌, ◌||◌, List, [], ◌∷◌, ◌++◌, length}
use Rattle.std.specs.Prelude.{replicate, slice_get, flat_map, Option, Some, None, option_map, if◌then◌else◌}
use Rattle.std.specs.Char.Escape.{encode_utf16}
use Rattle.std.specs.Str.{chars, is_utf8}
use Rattle.n2k_wire.specs.Steps.{some_if}
use Rattle.n2k_table.specs.declared.string_place.Form.{Form}
use Rattle.n2k_table.specs.declared.string_place.Form.TheVariants.{Lau, Lz}
use Rattle.n2k_table.specs.Shown.{is_filling}
use Rattle.n2k_table.specs.Strings.{is_filling_unit}
use Rattle.n2k_table.specs.Text.{space}
use Rattle.n2k_encode.specs.Steps.{◌>>=◌}

-- the greatest number of bytes in a field: a string with its length
abbrev pub most_bytes : ℕ
most_bytes = 255

-- bytes, if a field has room for them
abbrev pub within : Option (List ℕ) → Option (List ℕ)
within None = None
within (Some bs) = some_if (nat_le (length bs) most_bytes) bs

-- these bytes before others
abbrev pub before : List ℕ → Option (List ℕ) → Option (List ℕ)
before prefix rest = option_map (λ bs. prefix ++ bs) rest

-- a byte for each character of a text in UTF-8, if each character is at most U+00FF
abbrev mutual
  pub latin1 : List ℕ → Option (List ℕ)
  latin1 [] = Some []
  latin1 (b ∷ bs) = if nat_lt b 128 then before (b ∷ []) (latin1 bs) else latin1_pair b bs

  pub latin1_pair : ℕ → List ℕ → Option (List ℕ)
  latin1_pair b [] = None
  latin1_pair b (c ∷ bs) =
      if (b == 194 || b == 195) && nat_lt c 192 then before ((c + 64 * (b - 194)) ∷ []) (latin1 bs) else None

-- the value of an uppercase hexadecimal digit
abbrev pub hex_digit : ℕ → Option ℕ
hex_digit b =
    if nat_le 48 b && nat_le b 57 then Some (b - 48)
    else if nat_le 65 b && nat_le b 70 then Some (b - 55)
    else None

-- the byte of two hexadecimal digits
abbrev pub hex_byte : ℕ → ℕ → Option ℕ
hex_byte high low = do
  a ← hex_digit high
  b ← hex_digit low
  Some (16 * a + b)

-- a byte before others, if the byte exists
abbrev pub byte_before : Option ℕ → Option (List ℕ) → Option (List ℕ)
byte_before None rest = None
byte_before (Some b) rest = before (b ∷ []) rest

-- the bytes of pairs of uppercase hexadecimal digits, separated by single spaces
abbrev mutual
  pub some_pairs : List ℕ → Option (List ℕ)
  some_pairs [] = None
  some_pairs (high ∷ text) = pairs_from high text

  pub pairs_from : ℕ → List ℕ → Option (List ℕ)
  pairs_from high [] = None
  pairs_from high (low ∷ text) = byte_before (hex_byte high low) (later_pairs text)

  pub later_pairs : List ℕ → Option (List ℕ)
  later_pairs [] = Some []
  later_pairs (between ∷ text) = if between == space then some_pairs text else None

abbrev pub hex_bytes : List ℕ → Option (List ℕ)
hex_bytes [] = Some []
hex_bytes (b ∷ bs) = some_pairs (b ∷ bs)

-- the value of a decimal digit
abbrev pub digit : ℕ → Option ℕ
digit b = if nat_le 48 b && nat_le b 57 then Some (b - 48) else None

-- the byte of two decimal digits
abbrev pub digits_byte : ℕ → ℕ → Option ℕ
digits_byte high low = do
  a ← digit high
  b ← digit low
  Some (10 * a + b)

-- the bytes of pairs of decimal digits
abbrev mutual
  pub digit_pairs : List ℕ → Option (List ℕ)
  digit_pairs [] = Some []
  digit_pairs (high ∷ text) = digit_pairs_from high text

  pub digit_pairs_from : ℕ → List ℕ → Option (List ℕ)
  digit_pairs_from high [] = None
  digit_pairs_from high (low ∷ text) = byte_before (digits_byte high low) (digit_pairs text)

-- bytes padded with FF to a length; none if they are longer
abbrev pub filled : ℕ → List ℕ → Option (List ℕ)
filled n bs = some_if (nat_le (length bs) n) (bs ++ replicate (n - length bs) 255)

-- the last byte is not filler
abbrev pub is_full_end : Option ℕ → Bool
is_full_end None = false
is_full_end (Some b) = not (is_filling b)

abbrev pub ends_full : List ℕ → Bool
ends_full bs = is_full_end (slice_get bs (length bs - 1))

-- a string with these bytes: first its length, in the form `lau` then the encoding 1, then the bytes
abbrev pub narrow_string : Form → List ℕ → Option (List ℕ)
narrow_string Lau cs = some_if (ends_full cs && nat_le (length cs) (most_bytes - 2)) ((length cs + 2) ∷ 1 ∷ cs)
narrow_string Lz cs = some_if (ends_full cs && nat_le (length cs) (most_bytes - 1)) (length cs ∷ cs)

-- a string with one byte for each character, unless these bytes are also valid UTF-8
abbrev pub latin1_string : Form → List ℕ → Option (List ℕ)
latin1_string form text = do
  cs ← within (latin1 text)
  other ← some_if (not (is_utf8 cs)) cs
  narrow_string form other

-- a unit of UTF-16, low byte first
abbrev pub unit_bytes : ℕ → List ℕ
unit_bytes u = u % 256 ∷ u / 256 ∷ []

-- a character in UTF-16
abbrev pub wide_character : ℕ → List ℕ
wide_character c = flat_map unit_bytes (encode_utf16 c)

-- the last character
abbrev pub last_letter : List ℕ → Option ℕ
last_letter cs = slice_get cs (length cs - 1)

-- the character is not filler
abbrev pub is_letter : Option ℕ → Bool
is_letter None = false
is_letter (Some c) = not (is_filling_unit c)

abbrev pub ends_with_letter : List ℕ → Bool
ends_with_letter cs = is_letter (last_letter cs)

-- a string in UTF-16: its length, the encoding 0 and its bytes
abbrev pub wide_string_of : List ℕ → Option (List ℕ)
wide_string_of bs = within (Some ((length bs + 2) ∷ 0 ∷ bs))

unfoldable pub utf16_string : List ℕ → Option (List ℕ)
utf16_string text = do
  letters ← some_if (ends_with_letter (chars text)) (chars text)
  wide_string_of (flat_map wide_character letters)
