-- What a field shows of a message.
use Rattle.std.specs.Prelude.{ℕ, ℤ, pos, ◌+ℤ◌, ◌*ℤ◌, ◌+◌, ◌*◌, ◌-◌, ◌/◌, ◌==◌, Bool, false, ◌&&◌, ◌||◌, nat_le, nat_lt}
use Rattle.std.specs.Prelude.{List, [], ◌∷◌}
use Rattle.std.specs.Prelude.{length, map, take, drop, slice_range, Option, Some, None, if◌then◌else◌}
use Rattle.std.specs.List.{list_all}
use Rattle.std.specs.Ordering.{int_eq}
use Rattle.std.specs.Str.{is_utf8}
use Rattle.n2k_table.specs.declared.resolution.Resolution.{Resolution}
use Rattle.n2k_table.specs.declared.flags.Flag.{Flag}
use Rattle.n2k_table.specs.declared.flags.Flag.TheVariants as bit
use Rattle.n2k_table.specs.declared.flags.Flags.{Flags}
use Rattle.n2k_table.specs.declared.shown.Shown.{Shown}
use Rattle.n2k_table.specs.declared.shown.Shown.TheVariants as code
use Rattle.n2k_table.specs.declared.string_place.Form.{Form}
use Rattle.n2k_table.specs.declared.string_place.Form.TheVariants.{Lau, Lz}
use Rattle.n2k_table.specs.Bits.{raw, signed_value, greatest, bits_set}
use Rattle.n2k_table.specs.Field.{FieldParts, Meaning}
use Rattle.n2k_table.specs.Field as means
use Rattle.n2k_table.specs.Lookup.{name_of_value}
use Rattle.n2k_table.specs.Strings.{data_after, content, units, is_filling_unit}

-- a bit that is 1, by its name, or by its number if it has no name
pub data FlagParts : Type 0 where
  flag_name : List ℕ → FlagParts
  flag_bit : ℕ → FlagParts

-- nothing; a number, a whole number with its last digits after the dot; the name of a value; a text, each byte
-- the character of its number; a text of UTF-8; a text of UTF-16, low byte first; bytes; bits; or digits, two of each
-- byte
pub data ShownParts : Type 0 where
  absent : ShownParts
  number : ℤ → ℕ → ShownParts
  name : List ℕ → ShownParts
  text : List ℕ → ShownParts
  utf8 : List ℕ → ShownParts
  wide : List ℕ → ShownParts
  bytes : List ℕ → ShownParts
  flags : List FlagParts → ShownParts
  digits : List ℕ → ShownParts

-- the bit of a number, by the names of some
abbrev pub flag_of : ℕ → Option (List ℕ) → FlagParts
flag_of i None = flag_bit i
flag_of i (Some found) = flag_name found

abbrev pub flag : List (ℕ × List ℕ) → ℕ → FlagParts
flag entries i = flag_of i (name_of_value entries i)

-- what is left of the bits that the code returns one by one: those of a raw value from the next to the end
abbrev pub flags_left : Flags → List FlagParts
flags_left f = map (flag f.lookup.now.entries) (bits_set f.raw f.next (f.end - f.next))

-- a bit that the code returns, as such a part
abbrev pub flag_parts : Flag → FlagParts
flag_parts (bit.Name n) = flag_name n.now
flag_parts (bit.Bit i) = flag_bit i

-- what the code returns, as such parts
abbrev pub shown_parts : Shown → ShownParts
shown_parts code.Absent = absent
shown_parts (code.Number value decimals) = number value decimals
shown_parts (code.Name n) = name n.now
shown_parts (code.Text t) = text t.now
shown_parts (code.Utf8 t) = utf8 t.now
shown_parts (code.Wide t) = wide t.now
shown_parts (code.Bytes b) = bytes b.now
shown_parts (code.Flags f) = flags (flags_left f)
shown_parts (code.Digits b) = digits b.now

-- the field lies wholly inside the data
abbrev pub lies_inside : FieldParts → List ℕ → Bool
lies_inside f payload = nat_le (f.at + f.bits) (8 * length payload)

-- The value says that none is there: the greatest, from two bits on, and the greatest but one, from four bits on.
abbrev pub is_not_available : Bool → ℕ → ℤ → Bool
is_not_available signed n value =
    (nat_le 2 n && int_eq value (pos (greatest signed n))) || (nat_le 4 n && int_eq value (pos (greatest signed n - 1)))

-- a number of n bits, times the mantissa of its resolution
abbrev pub shown_number : Bool → Resolution → ℕ → ℕ → ShownParts
shown_number signed resolution n r =
    if is_not_available signed n (signed_value signed n r) then absent
    else number (signed_value signed n r *ℤ pos resolution.mantissa) resolution.decimals

-- An unsigned number of n bits and the offset, times the mantissa. Whether it is there says the number alone.
abbrev pub shown_shifted : ℤ → Resolution → ℕ → ℕ → ShownParts
shown_shifted offset resolution n r =
    if is_not_available false n (pos r) then absent
    else number ((pos r +ℤ offset) *ℤ pos resolution.mantissa) resolution.decimals

-- a value of n bits that has no name: from two bits on the greatest says that none is there
abbrev pub shown_unnamed : ℕ → ℕ → ShownParts
shown_unnamed n r = if nat_le 2 n && r == greatest false n then absent else number (pos r) 0

-- a value of n bits by its name, if it has one: the names are asked first, for the greatest value too
abbrev pub shown_name : Option (List ℕ) → ℕ → ℕ → ShownParts
shown_name (Some found) n r = name found
shown_name None n r = shown_unnamed n r

-- From eight bits on the greatest value and the greatest but one say that there are no flags.
abbrev pub has_no_flags : ℕ → ℕ → Bool
has_no_flags n r = nat_le 8 n && (r == greatest false n || r == greatest false n - 1)

-- the bits of n that are 1
abbrev pub shown_flags : List (ℕ × List ℕ) → ℕ → ℕ → ShownParts
shown_flags entries n r = if has_no_flags n r then absent else flags (map (flag entries) (bits_set r 0 n))

-- a byte that fills a text up: 00, FF, `@` or a space
abbrev pub is_filling : ℕ → Bool
is_filling b = b == 0 || b == 255 || b == 64 || b == 32

-- bytes up to the last that is not filler
abbrev pub trimmed_of : (ℕ → Bool) → List ℕ → List ℕ
trimmed_of fills [] = []
trimmed_of fills (b ∷ bs) = if list_all fills (b ∷ bs) then [] else b ∷ trimmed_of fills bs

-- a text up to its last byte that is not filler
abbrev pub trimmed : List ℕ → List ℕ
trimmed bs = trimmed_of is_filling bs

-- a text that is not all filling
abbrev pub shown_text : List ℕ → ShownParts
shown_text [] = absent
shown_text (b ∷ bs) = text (b ∷ bs)

-- the characters of a string that is not all filler: of UTF-8 if they are valid UTF-8, else each byte is one
abbrev pub shown_characters : List ℕ → ShownParts
shown_characters [] = absent
shown_characters (b ∷ bs) = if is_utf8 (b ∷ bs) then utf8 (b ∷ bs) else text (b ∷ bs)

-- the bytes of UTF-16 up to the last unit that is not filler
abbrev pub trimmed_units : List ℕ → List ℕ
trimmed_units bs = take (2 * length (trimmed_of is_filling_unit (units bs))) bs

-- the characters of a string of UTF-16 that is not all filling
abbrev pub shown_wide : List ℕ → ShownParts
shown_wide [] = absent
shown_wide (b ∷ bs) = wide (b ∷ bs)

-- characters after a byte for their encoding: 0 is UTF-16, 1 is bytes, and of another nothing is shown
abbrev pub shown_encoded : List ℕ → ShownParts
shown_encoded [] = absent
shown_encoded (e ∷ cs) =
    if e == 0 then shown_wide (trimmed_units cs) else if e == 1 then shown_characters (trimmed cs) else absent

-- the bytes of a string after its length
abbrev pub shown_content : Form → Option (List ℕ) → ShownParts
shown_content form None = absent
shown_content Lau (Some bs) = shown_encoded bs
shown_content Lz (Some bs) = shown_characters (trimmed bs)

-- A string, of the bytes from its length on. If it goes on after them it shows nothing; a short one shows what is there.
abbrev pub shown_string : Form → Bool → List ℕ → ShownParts
shown_string form short [] = absent
shown_string form short (l ∷ bs) = shown_content form (content form short l bs)

-- a byte that follows digits
abbrev pub is_no_digit : ℕ → Bool
is_no_digit b = b == 255

-- a byte of two digits
abbrev pub is_two_digits : ℕ → Bool
is_two_digits b = nat_le b 99

-- bytes that are two digits each, and of which there is one
abbrev pub shown_digits : List ℕ → ShownParts
shown_digits [] = absent
shown_digits (b ∷ bs) = if list_all is_two_digits (b ∷ bs) then digits (b ∷ bs) else absent

-- the bytes of a field that begins and ends with a byte
abbrev pub field_bytes : FieldParts → List ℕ → List ℕ
field_bytes f payload = slice_range payload (f.at / 8) ((f.at + f.bits) / 8)

-- what a field that lies inside the data shows, by what it means
abbrev pub shown_inside : Meaning → FieldParts → List ℕ → ShownParts
shown_inside (means.number signed resolution) f payload =
    shown_number signed resolution f.bits (raw payload f.at f.bits)
shown_inside (means.shifted offset resolution) f payload =
    shown_shifted offset resolution f.bits (raw payload f.at f.bits)
shown_inside (means.named entries) f payload =
    shown_name (name_of_value entries (raw payload f.at f.bits)) f.bits (raw payload f.at f.bits)
shown_inside means.text f payload = shown_text (trimmed (field_bytes f payload))
shown_inside means.bytes f payload = bytes (field_bytes f payload)
shown_inside means.digits f payload = shown_digits (trimmed_of is_no_digit (field_bytes f payload))
shown_inside (means.flags entries) f payload = shown_flags entries f.bits (raw payload f.at f.bits)
shown_inside (means.string form) f payload = shown_string form f.short (drop (f.at / 8) payload)

-- the field begins inside the data
abbrev pub begins_inside : FieldParts → List ℕ → Bool
begins_inside f payload = nat_lt f.at (8 * length payload)

-- what these bytes show of a text or of bytes that go on after them
abbrev pub shown_prefix : Meaning → List ℕ → ShownParts
shown_prefix means.text prefix = shown_text (trimmed prefix)
shown_prefix means.bytes prefix = bytes prefix
shown_prefix _ prefix = absent

-- what a field shows that ends after the data: a short field shows the part that is there
abbrev pub shown_part : FieldParts → List ℕ → ShownParts
shown_part f payload =
    if f.short && begins_inside f payload then shown_prefix f.meaning (drop (f.at / 8) payload) else absent

-- what a field shows of the data from where its place counts
abbrev pub shown_from : FieldParts → List ℕ → ShownParts
shown_from f rest = if lies_inside f rest then shown_inside f.meaning f rest else shown_part f rest

-- nothing if a string before it has no end
abbrev pub shown_if_there : FieldParts → Option (List ℕ) → ShownParts
shown_if_there f None = absent
shown_if_there f (Some rest) = shown_from f rest

-- what a field shows of the data, which count from the end of the strings before it
abbrev pub shown : FieldParts → List ℕ → ShownParts
shown f payload = shown_if_there f (data_after f.after payload)

-- the name of each field and what it shows, in order
abbrev pub all_shown : List FieldParts → List ℕ → List (List ℕ × ShownParts)
all_shown fields payload = map (λ f. (f.name, shown f payload)) fields
