-- What a table says of one field, or the first fault that it has.
use Rattle.std.specs.Prelude.{ℕ, ℤ, pos, negsuc, ◌+◌, ◌%◌, ◌==◌, Bool, true, false, not, ◌&&◌, ◌||◌, nat_le, codes}
use Rattle.std.specs.Prelude.{List, [], ◌∷◌, ◌++◌, Option, Some, None, Result, Ok, Err, if◌then◌else◌}
use Rattle.std.specs.List.{find}
use Rattle.std.specs.Option.{ok_or}
use Rattle.std.specs.Str.{bytes_eq}
use Rattle.toml.specs.Data.{Data, Members, get_member, as_integer, as_str}
use Rattle.n2k_table.specs.declared.fault.TableFault.{TableFault}
use Rattle.n2k_table.specs.declared.fault.TableFault.TheVariants.{Key, Range, Text, Lookup}
use Rattle.n2k_table.specs.declared.resolution.Resolution.{Resolution}
use Rattle.n2k_table.specs.declared.string_place.Form.{Form}
use Rattle.n2k_table.specs.declared.string_place.Form.TheVariants.{Lau, Lz}
use Rattle.n2k_table.specs.declared.string_place.Step.{Step}
use Rattle.n2k_table.specs.declared.tree.FieldKind.{FieldKind}
use Rattle.n2k_table.specs.declared.tree.FieldKind.TheVariants as kind
use Rattle.n2k_table.specs.declared.tree.Holder.{Holder}
use Rattle.n2k_table.specs.declared.tree.Section.TheVariants.{Field}
use Rattle.n2k_table.specs.declared.tree.TableFormat.{TableFormat}
use Rattle.n2k_wire.specs.Steps.{◌>>=◌, holds_or}
use Rattle.n2k_table.specs.Bits.{greatest}
use Rattle.n2k_table.specs.Lookup.{LookupParts}
use Rattle.n2k_table.specs.Tree.{has_bits, can_be_short, can_match}
use Rattle.n2k_table.specs.Tree.{message_bits, end_of, check_keys, as_members, int_at, any_text_at, text_at}
use Rattle.n2k_table.specs.Tree.{checked_text, bool_at, in_range, is_extended}
use Rattle.n2k_table.specs.Resolution.{resolution_at}

-- the last bit of a message at which a field may begin
abbrev pub last_bit : ℕ
last_bit = 1783

-- the most bits of a number
abbrev pub most_number_bits : ℕ
most_number_bits = 64

-- the most bits of a flags field
abbrev pub most_flags : ℕ
most_flags = 64

-- the most bits of a lookup field
abbrev pub most_lookup_bits : ℕ
most_lookup_bits = 32

-- the greatest offset of a number; the least is as far below zero and one more
abbrev pub greatest_offset : ℕ
greatest_offset = 4294967295

-- What the bits of a field mean: a number, in two's complement if it is signed, times its resolution; a number to
-- which an offset is added, times its resolution; a value that some names are given for; bits that some names are given
-- for, by their numbers; a text; bytes as they are; bytes that are two decimal digits each; or a string, which says
-- itself how long it is.
pub data Meaning : Type 0 where
  number : Bool → Resolution → Meaning
  shifted : ℤ → Resolution → Meaning
  named : List (ℕ × List ℕ) → Meaning
  flags : List (ℕ × List ℕ) → Meaning
  text : Meaning
  bytes : Meaning
  digits : Meaning
  string : Form → Meaning

-- a field: its name, its first bit in the message or in its set, how many bits it has, whether it may be short, the
-- strings before it, from the first on, what its bits mean, and the raw value that a message must have
-- there for the definition to be chosen, if it asks for one. If strings precede it, its first bit counts from
-- the end of the last. A string has no bits of its own.
pub record FieldParts : Type 0 where
  pub name : List ℕ
  pub at : ℕ
  pub bits : ℕ
  pub short : Bool
  pub after : List Step
  pub meaning : Meaning
  pub match_value : Option ℕ

-- the kinds that only a table of format 3 may have
abbrev pub more_field_kind : List ℕ → Result FieldKind TableFault
more_field_kind name =
    if bytes_eq name (codes "flags") then Ok kind.Flags
    else (if bytes_eq name (codes "digits") then Ok kind.Digits
    else (if bytes_eq name (codes "string") then Ok kind.String else Err Text))

-- the kinds of fields of a message or of a set in a table of that format
abbrev pub named_field_kind : TableFormat → List ℕ → Result FieldKind TableFault
named_field_kind format name =
    if bytes_eq name (codes "number") then Ok kind.Number
    else (if bytes_eq name (codes "lookup") then Ok kind.Lookup
    else (if bytes_eq name (codes "text") then Ok kind.Text
    else (if bytes_eq name (codes "bytes") then Ok kind.Bytes
    else (if is_extended format then more_field_kind name else Err Text))))

abbrev pub kind_of_field : TableFormat → Members → Result FieldKind TableFault
kind_of_field format f = do
  name ← any_text_at (codes "kind") f
  named_field_kind format name

-- Texts, bytes, digits and strings begin and end with a byte: their places are multiples of 8.
abbrev pub alignment : FieldKind → ℕ
alignment kind.Number = 1
alignment kind.Lookup = 1
alignment kind.Text = 8
alignment kind.Bytes = 8
alignment kind.Flags = 1
alignment kind.Digits = 8
alignment kind.String = 8

abbrev pub most_bits : FieldKind → ℕ
most_bits kind.Number = most_number_bits
most_bits kind.Lookup = most_lookup_bits
most_bits kind.Text = message_bits
most_bits kind.Bytes = message_bits
most_bits kind.Flags = most_flags
most_bits kind.Digits = message_bits
most_bits kind.String = 0

abbrev pub multiple_of : ℕ → ℕ → Result ℕ TableFault
multiple_of alignment n = if n % alignment == 0 then Ok n else Err Range

-- the first bit, a multiple of the alignment
abbrev pub first_bit : ℕ → Members → Result ℕ TableFault
first_bit alignment m = do
  n ← int_at (codes "at") 0 last_bit m
  multiple_of alignment n

-- how many bits there are: a multiple of the alignment, so many at least, and so many at most
abbrev pub bit_count : ℕ → ℕ → ℕ → Members → Result ℕ TableFault
bit_count alignment least most m = do
  n ← int_at (codes "bits") least most m
  multiple_of alignment n

-- how many bits a field has; a string has none
abbrev pub bits_of : FieldKind → Members → Result ℕ TableFault
bits_of kind f = if has_bits kind then bit_count (alignment kind) 1 (most_bits kind) f else Ok 0

abbrev pub is_string : Meaning → Bool
is_string (string form) = true
is_string _ = false

-- the field is a string of that name
abbrev pub is_string_named : List ℕ → FieldParts → Bool
is_string_named name f = is_string f.meaning && bytes_eq name f.name

-- a string as one before other fields; nothing of another field
abbrev pub own_step : Meaning → ℕ → List Step
own_step (string form) at = record { at = at; form = form } ∷ []
own_step _ at = []

-- the strings before a field that follows this one, from the first on
abbrev pub steps_through : FieldParts → List Step
steps_through f = f.after ++ own_step f.meaning f.at

-- the strings before a field that names a string of these fields, the first of the name
abbrev pub steps_named : List FieldParts → Data → Result (List Step) TableFault
steps_named before d = do
  spelled ← ok_or (as_str d) Key
  name ← checked_text spelled
  earlier ← ok_or (find (is_string_named name) before) Lookup
  Ok (steps_through earlier)

-- The strings before a field by what is at `match` and at `after`, if something is. It names a string of
-- those that were read before it. A field that asks for a value has a place of its own.
abbrev pub steps_to : List FieldParts → Option Data → Option Data → Result (List Step) TableFault
steps_to before asked None = Ok []
steps_to before (Some value) (Some d) = Err Key
steps_to before None (Some d) = steps_named before d

abbrev pub steps_of : List FieldParts → Members → Result (List Step) TableFault
steps_of before f = steps_to before (get_member (codes "match") f) (get_member (codes "after") f)

-- the place of a field after these strings if they took no bytes
abbrev pub fixed_place : List Step → ℕ → ℕ
fixed_place [] at = at
fixed_place (s ∷ ss) at = fixed_place ss (s.at + at)

-- bits after strings don't end past the end, as far as the table says it
abbrev pub check_end : List Step → ℕ → ℕ → ℕ → Result (Unit {0}) TableFault
check_end after at bits end = holds_or Range (nat_le (fixed_place after at + bits) end)

abbrev pub offset_in_range : ℤ → Result ℤ TableFault
offset_in_range (pos n) = if nat_le n greatest_offset then Ok (pos n) else Err Range
offset_in_range (negsuc n) = if nat_le n greatest_offset then Ok (negsuc n) else Err Range

-- What a number of that resolution means, by the value of `offset`, if there is one. A signed number has no offset.
abbrev pub offset_number : Bool → Resolution → Option Data → Result Meaning TableFault
offset_number signed resolution None = Ok (number signed resolution)
offset_number true resolution (Some d) = Err Key
offset_number false resolution (Some d) = do
  z ← ok_or (as_integer d) Key
  offset ← offset_in_range z
  Ok (shifted offset resolution)

-- A unit is a text for tools, and no line has it.
abbrev pub check_unit : Option Data → Result (Unit {0}) TableFault
check_unit None = Ok tt
check_unit (Some d) = do
  unit ← ok_or (as_str d) Key
  checked ← checked_text unit
  Ok tt

-- a signed number has a bit beside its sign
unfoldable pub number_of_bits : ℕ → Members → Result Meaning TableFault
number_of_bits bits f = do
  signed ← bool_at (codes "signed") f
  room ← holds_or Range (not signed || nat_le 2 bits)
  resolution ← resolution_at f
  meaning ← offset_number signed resolution (get_member (codes "offset") f)
  known ← check_unit (get_member (codes "unit") f)
  Ok meaning

-- the lookup of a table that a field names
unfoldable pub lookup_named : List LookupParts → Members → Result LookupParts TableFault
lookup_named lookups f = do
  name ← text_at (codes "lookup") f
  ok_or (find (λ l. bytes_eq name l.name) lookups) Lookup

abbrev pub named_form : List ℕ → Result Form TableFault
named_form name =
    if bytes_eq name (codes "lau") then Ok Lau else (if bytes_eq name (codes "lz") then Ok Lz else Err Text)

-- how a string says how long it is
abbrev pub form_of : Members → Result Form TableFault
form_of f = do
  name ← any_text_at (codes "form") f
  named_form name

-- what so many bits of a field of that kind mean, in a table of these lookups
abbrev pub meaning_of : List LookupParts → FieldKind → ℕ → Members → Result Meaning TableFault
meaning_of lookups kind.Number bits f = number_of_bits bits f
meaning_of lookups kind.Lookup bits f = do
  lookup ← lookup_named lookups f
  Ok (named lookup.entries)
meaning_of lookups kind.Text bits f = Ok text
meaning_of lookups kind.Bytes bits f = Ok bytes
meaning_of lookups kind.Flags bits f = do
  lookup ← lookup_named lookups f
  Ok (flags lookup.entries)
meaning_of lookups kind.Digits bits f = Ok digits
meaning_of lookups kind.String bits f = do
  form ← form_of f
  Ok (string form)

-- a raw value of so many bits, if one is asked for
abbrev pub raw_or_none : ℕ → Option Data → Result (Option ℕ) TableFault
raw_or_none bits None = Ok None
raw_or_none bits (Some d) = do
  z ← ok_or (as_integer d) Key
  value ← in_range 0 (greatest false bits) z
  Ok (Some value)

abbrev pub match_value_of : FieldKind → Holder → ℕ → Members → Result (Option ℕ) TableFault
match_value_of kind holder bits f =
    if can_match kind holder then raw_or_none bits (get_member (codes "match") f) else Ok None

-- whether a field may be short, which only some may
abbrev pub short_of : FieldKind → Holder → Members → Result Bool TableFault
short_of kind holder f = if can_be_short kind holder then bool_at (codes "short") f else Ok false

-- the field of that name and at that place, by its other keys, in a table of these lookups
unfoldable pub field_at : List LookupParts → FieldKind → Holder → List ℕ → ℕ → ℕ → List Step → Members → Result FieldParts TableFault
field_at lookups kind holder name at bits after f = do
  meaning ← meaning_of lookups kind bits f
  short ← short_of kind holder f
  match_value ← match_value_of kind holder bits f
  Ok (record {
    name = name;
    at = at;
    bits = bits;
    short = short;
    after = after;
    meaning = meaning;
    match_value = match_value;
  })

-- the field that a value spells after these, in a table of that format and of these lookups
unfoldable pub field : TableFormat → Holder → List LookupParts → List FieldParts → Data → Result FieldParts TableFault
field format holder lookups before d = do
  f ← as_members d
  kind ← kind_of_field format f
  known ← check_keys (Field format kind holder) f
  name ← text_at (codes "name") f
  at ← first_bit (alignment kind) f
  bits ← bits_of kind f
  after ← steps_of before f
  inside ← check_end after at bits (end_of holder)
  field_at lookups kind holder name at bits after f
