-- The bits or bytes that show a given value: docs/PROFILE.md, "The fields".
use Rattle.std.specs.Prelude.{ℕ, ℤ, pos, negsuc, neg_ℤ, ◌-ℤ◌, ◌+◌, ◌-◌, ◌*◌, ◌/◌, ◌^◌, ◌==◌, nat_lt, nat_le, Bool, not, ◌&&◌, ◌||◌, bit_or}
use Rattle.std.specs.Prelude.{false, List, [], ◌∷◌, length, replicate, Option, Some, None, is_none, option_map, if◌then◌else◌}
use Rattle.std.specs.Int.RustNames.{unsigned_abs}
use Rattle.std.specs.List.{find}
use Rattle.std.specs.Option.{option_and_then}
use Rattle.std.specs.Str.{bytes_eq}
use Rattle.fast_float.specs.Text.{scan}
use Rattle.json.specs.Json.{Json, null, boolean, number, string, array, object, Items, no_items, item}
use Rattle.json.specs.Find.{as_array, as_number, as_str}
use Rattle.n2k_wire.specs.Steps.{some_if}
use Rattle.n2k_table.specs.declared.resolution.Resolution.{Resolution}
use Rattle.n2k_table.specs.declared.string_place.Form.{Form}
use Rattle.n2k_table.specs.declared.string_place.Form.TheVariants.{Lau, Lz}
use Rattle.n2k_table.specs.Bits.{greatest, has_bit}
use Rattle.n2k_table.specs.Field.{FieldParts, Meaning}
use Rattle.n2k_table.specs.Field as means
use Rattle.n2k_table.specs.Lookup.{name_of_value}
use Rattle.n2k_encode.specs.declared.value.Style.{Style}
use Rattle.n2k_encode.specs.Numeral.{is_negative, digits_of, scaled, multiples}
use Rattle.n2k_encode.specs.Request.{whole_number}
use Rattle.n2k_encode.specs.Steps.{◌>>=◌, first_of, is_some_with}
use Rattle.n2k_encode.specs.Texts.{latin1, filled, ends_full, hex_bytes, digit_pairs, narrow_string, latin1_string, utf16_string, within}

-- how many of the greatest values of n bits mean "not available"
abbrev pub reserved : ℕ → ℕ
reserved n = if nat_lt n 2 then 0 else if nat_lt n 4 then 1 else 2

-- The raw value of n bits that is this number, in two's complement if the bits are signed. Raw values that mean "not
-- available" are excluded.
unfoldable pub raw_number : Bool → ℕ → Bool → ℕ → Option ℕ
raw_number signed n negative size =
    if negative && nat_lt 0 size then some_if (signed && nat_le size (2 ^ (n - 1))) (2 ^ n - size)
    else some_if (nat_le (size + reserved n) (greatest signed n)) size

-- the number of units of a resolution that a JSON number is, without its sign
unfoldable pub units_of : Bool → ℕ → Resolution → List ℕ → Option ℕ
units_of nearest parity resolution text = do
  size ← scaled (resolution.decimals + 1) (scan (digits_of text))
  multiples nearest parity (10 * resolution.mantissa) size

-- the raw value of a number
unfoldable pub number_raw : Bool → Bool → ℕ → Resolution → List ℕ → Option ℕ
number_raw nearest signed n resolution text = do
  units ← units_of nearest 0 resolution text
  raw_number signed n (is_negative text) units

-- a number with its sign
abbrev pub with_sign : Bool → ℕ → ℤ
with_sign negative size = if negative then neg_ℤ (pos size) else pos size

-- the raw value of a whole number that has no sign bit
abbrev pub whole_raw : ℕ → ℤ → Option ℕ
whole_raw n (pos size) = raw_number false n false size
whole_raw n (negsuc size) = None

-- the raw value of a number to which an offset is added
unfoldable pub shifted_raw : Bool → ℕ → ℤ → Resolution → List ℕ → Option ℕ
shifted_raw nearest n offset resolution text = do
  units ← units_of nearest (unsigned_abs offset) resolution text
  whole_raw n (with_sign (is_negative text) units -ℤ offset)

-- a number below 2 ^ 64 without a name
unfoldable pub unnamed : List (ℕ × List ℕ) → List ℕ → Option ℕ
unnamed entries text = do
  n ← whole_number text
  some_if (nat_lt n (2 ^ 64) && is_none (name_of_value entries n)) n

-- A value of n bits that is available. From two bits on the greatest value is not available, unless it has a name.
abbrev pub is_there : List (ℕ × List ℕ) → ℕ → ℕ → Bool
is_there entries n v =
    nat_le v (greatest false n) && not (v == greatest false n && nat_le 2 n && is_none (name_of_value entries v))

abbrev pub if_there : List (ℕ × List ℕ) → ℕ → Option ℕ → Option ℕ
if_there entries n None = None
if_there entries n (Some v) = some_if (is_there entries n v) v

-- the first value of a lookup, at most `most`, with the given name, or the given number if it has no name
abbrev pub named_value : List (ℕ × List ℕ) → ℕ → Json → Option ℕ
named_value entries most null = None
named_value entries most (boolean b) = None
named_value entries most (number s) = unnamed entries s
named_value entries most (string s) = option_map (λ e. e.0) (find (λ e. nat_le e.0 most && bytes_eq e.1 s) entries)
named_value entries most (array js) = None
named_value entries most (object ms) = None

-- the given text is the name of a `match` value
abbrev pub names_asked : List (ℕ × List ℕ) → Option ℕ → Json → Bool
names_asked entries asked j =
    is_some_with (λ text. is_some_with (λ name. bytes_eq name text) (option_and_then (name_of_value entries) asked)) (as_str j)

-- The raw value of a lookup. Two values may have the same name: the `match` value is taken if it has the given name,
-- otherwise the first that n bits can hold.
abbrev pub lookup_raw : List (ℕ × List ℕ) → ℕ → Option ℕ → Json → Option ℕ
lookup_raw entries n asked j =
    if names_asked entries asked j then asked else if_there entries n (named_value entries (greatest false n) j)

-- the raw value with one more bit, if the bit is one of n and not set yet
abbrev pub with_flag : ℕ → ℕ → ℕ → Option ℕ
with_flag raw n bit = some_if (nat_lt bit n && not (has_bit raw bit)) (bit_or raw (2 ^ bit))

-- the raw value with all named bits; each bit may be named once
abbrev pub flags_from : List (ℕ × List ℕ) → ℕ → ℕ → Items → Option ℕ
flags_from entries n raw no_items = Some raw
flags_from entries n raw (item j js) = do
  bit ← named_value entries (n - 1) j
  more ← with_flag raw n bit
  flags_from entries n more js

-- From eight bits on the two greatest values mean "not available".
abbrev pub are_there : ℕ → ℕ → Bool
are_there n raw = not (nat_le 8 n && nat_le (greatest false n - 1) raw)

-- the shorter of two strings; the first if both are equally long
abbrev pub shorter_of : Option (List ℕ) → Option (List ℕ) → Option (List ℕ)
shorter_of None other = other
shorter_of (Some bs) None = Some bs
shorter_of (Some bs) (Some cs) = if nat_lt (length cs) (length bs) then Some cs else Some bs

-- the raw value of flags
abbrev pub flags_raw : List (ℕ × List ℕ) → ℕ → Json → Option ℕ
flags_raw entries n j = do
  js ← as_array j
  raw ← flags_from entries n 0 js
  some_if (are_there n raw) raw

-- the bytes of a text, padded to the width
unfoldable pub text_bytes : ℕ → List ℕ → Option (List ℕ)
text_bytes width text = do
  bs ← within (latin1 text)
  full ← some_if (ends_full bs) bs
  filled width full

-- the bytes of a field of bytes; a short field may have fewer than its width
unfoldable pub plain_bytes : ℕ → Bool → List ℕ → Option (List ℕ)
plain_bytes width short text = do
  bs ← within (hex_bytes text)
  some_if (length bs == width || (short && nat_lt (length bs) width)) bs

-- the bytes of at least two digits, padded to the width
unfoldable pub digit_bytes : ℕ → List ℕ → Option (List ℕ)
digit_bytes width text = do
  bs ← within (digit_pairs text)
  some ← some_if (nat_lt 0 (length bs)) bs
  filled width some

-- a string in UTF-16, in the form `lau` only
abbrev pub wide_string : Form → List ℕ → Option (List ℕ)
wide_string Lau text = utf16_string text
wide_string Lz text = None

-- The first encoding that shows the text: UTF-8, one byte for each character, UTF-16.
abbrev pub first_string : Form → List ℕ → Option (List ℕ)
first_string form text = first_of (narrow_string form text) (first_of (latin1_string form text) (wide_string form text))

-- The shortest encoding that shows the text. No encoding is shorter than one byte for each character.
abbrev pub shortest_string : Form → List ℕ → Option (List ℕ)
shortest_string form text =
    first_of (latin1_string form text) (shorter_of (narrow_string form text) (wide_string form text))

abbrev pub string_bytes : Bool → Form → List ℕ → Option (List ℕ)
string_bytes shortest form text = if shortest then shortest_string form text else first_string form text

-- the raw value, unless the field has another `match` value
abbrev pub if_asked : Option ℕ → ℕ → Option ℕ
if_asked None raw = Some raw
if_asked (Some asked) raw = some_if (asked == raw) raw

-- the code of a field: the raw value of its bits, or its bytes
pub data CodeParts : Type 0 where
  bits : ℕ → CodeParts
  bytes : List ℕ → CodeParts

-- A field with `match` must have this value.
abbrev pub bits_for : FieldParts → Option ℕ → Option CodeParts
bits_for f None = None
bits_for f (Some raw) = option_map bits (if_asked f.match_value raw)

abbrev pub bytes_for : Option (List ℕ) → Option CodeParts
bytes_for found = option_map bytes found

-- the code by which a field of bytes with this meaning shows a value, if it can show the value
abbrev pub byte_code_for : Style → FieldParts → Json → Meaning → Option CodeParts
byte_code_for s f j means.text = bytes_for (option_and_then (text_bytes (f.bits / 8)) (as_str j))
byte_code_for s f j means.bytes = bytes_for (option_and_then (plain_bytes (f.bits / 8) f.short) (as_str j))
byte_code_for s f j means.digits = bytes_for (option_and_then (digit_bytes (f.bits / 8)) (as_str j))
byte_code_for s f j (means.string form) = bytes_for (option_and_then (string_bytes s.shortest form) (as_str j))
byte_code_for s f j _ = None

-- the code by which a field with this meaning shows a value, if it can show the value
abbrev pub code_for : Style → FieldParts → Json → Meaning → Option CodeParts
code_for s f j (means.number signed resolution) =
    bits_for f (option_and_then (number_raw s.nearest signed f.bits resolution) (as_number j))
code_for s f j (means.shifted offset resolution) =
    bits_for f (option_and_then (shifted_raw s.nearest f.bits offset resolution) (as_number j))
code_for s f j (means.named entries) = bits_for f (lookup_raw entries f.bits f.match_value j)
code_for s f j (means.flags entries) = bits_for f (flags_raw entries f.bits j)
code_for s f j meaning = byte_code_for s f j meaning

-- the empty string
abbrev pub empty_string : Form → List ℕ
empty_string Lau = 2 ∷ 1 ∷ []
empty_string Lz = 0 ∷ []

abbrev pub all_ones : ℕ → CodeParts
all_ones n = bytes (replicate n 255)

-- the code that means "not available"
abbrev pub not_available : ℕ → Meaning → CodeParts
not_available n (means.number signed resolution) = bits (greatest signed n)
not_available n (means.shifted offset resolution) = bits (greatest false n)
not_available n (means.named entries) = bits (greatest false n)
not_available n (means.flags entries) = bits (greatest false n)
not_available n means.text = all_ones (n / 8)
not_available n means.bytes = all_ones (n / 8)
not_available n means.digits = all_ones (n / 8)
not_available n (means.string form) = bytes (empty_string form)
