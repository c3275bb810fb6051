-- Strings, which contain their own length: where they end, and the bytes of their characters.
use Rattle.std.specs.Prelude.{ℕ, ◌+◌, ◌*◌, ◌-◌, ◌/◌, ◌==◌, Bool, ◌&&◌, ◌||◌, nat_le, List, [], ◌∷◌, length, take, drop}
use Rattle.std.specs.Prelude.{flat_map, Option, Some, None, option_map, if◌then◌else◌}
use Rattle.std.specs.Char.Utf16.{utf16_lossy_chars}
use Rattle.std.specs.Option.{option_and_then}
use Rattle.n2k_table.specs.declared.string_place.Form.{Form}
use Rattle.n2k_table.specs.declared.string_place.Form.TheVariants.{Lau, Lz}
use Rattle.n2k_table.specs.declared.string_place.Step.{Step}
use Rattle.n2k_table.specs.Text.{character}

-- How many of the bytes are a string that begins with the first of them, its length; none if it is not proper. Of
-- the form `lau` the length counts itself, a byte that names the encoding, and the characters; of `lz` the characters
-- alone.
abbrev pub taken : Form → List ℕ → Option ℕ
taken form [] = None
taken Lau (l ∷ bs) = if nat_le 2 l && nat_le l (length (l ∷ bs)) then Some l else None
taken Lz (l ∷ bs) = if nat_le (1 + l) (length (l ∷ bs)) then Some (1 + l) else None

-- the bytes after a string that begins with the first of them, if it has an end
abbrev pub after_string : Form → List ℕ → Option (List ℕ)
after_string form bytes = option_map (λ n. drop n bytes) (taken form bytes)

-- the data from where a field's place counts: after the strings before it, if each of these has an end
abbrev pub data_after : List Step → List ℕ → Option (List ℕ)
data_after [] payload = Some payload
data_after (s ∷ ss) payload = option_and_then (data_after ss) (after_string s.form (drop (s.at / 8) payload))

-- so many bytes of those that are there; of a short string what is there of them
abbrev pub first_bytes : Bool → ℕ → List ℕ → Option (List ℕ)
first_bytes short n bs = if short || nat_le n (length bs) then Some (take n bs) else None

-- the bytes of a string after its length l, of the bytes after that
abbrev pub content : Form → Bool → ℕ → List ℕ → Option (List ℕ)
content Lau short l bs = if nat_le 2 l then first_bytes short (l - 1) bs else None
content Lz short l bs = first_bytes short l bs

-- the units of UTF-16, low byte first; an odd last byte is left out
abbrev pub units : List ℕ → List ℕ
units [] = []
units (low ∷ []) = []
units (low ∷ high ∷ bs) = (low + 256 * high) ∷ units bs

-- a unit that fills a text up: 0000, FFFF, `@` or a space
abbrev pub is_filling_unit : ℕ → Bool
is_filling_unit u = u == 0 || u == 65535 || u == 64 || u == 32

-- the text of UTF-16, low byte first: of a pair of surrogates its character, of a lone one U+FFFD
abbrev pub wide_text : List ℕ → List ℕ
wide_text bytes = flat_map character (utf16_lossy_chars (units bytes))
