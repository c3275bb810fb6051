-- One value of a TOML table: of which kind it is, and whether it lies in its range.
use Rattle.std.specs.Prelude.{ℕ, ℤ, pos, negsuc, Bool, true, false, ◌&&◌, ◌||◌, nat_le, codes, List, [], ◌∷◌, length}
use Rattle.std.specs.Prelude.{Option, Some, None, Result, Ok, Err, if◌then◌else◌}
use Rattle.std.specs.Option.{ok_or}
use Rattle.std.specs.Str.{bytes_eq}
use Rattle.std.specs.List.{list_any}
use Rattle.toml.specs.Data.{Data, Items, no_items, item, Members, no_members, member, get_member, as_integer, as_str}
use Rattle.toml.specs.Data.{as_bool, as_array, as_table}
use Rattle.n2k_table.specs.declared.fault.TableFault.{TableFault}
use Rattle.n2k_table.specs.declared.fault.TableFault.TheVariants.{Key, Range, Text, TooMany}
use Rattle.n2k_table.specs.declared.tree.TableFormat.{TableFormat}
use Rattle.n2k_table.specs.declared.tree.TableFormat.TheVariants.{One, Two, Three}
use Rattle.n2k_table.specs.declared.tree.FieldKind.{FieldKind}
use Rattle.n2k_table.specs.declared.tree.FieldKind.TheVariants as kind
use Rattle.n2k_table.specs.declared.tree.Holder.{Holder}
use Rattle.n2k_table.specs.declared.tree.Holder.TheVariants.{Message, Set}
use Rattle.n2k_table.specs.declared.tree.Section.{Section}
use Rattle.n2k_table.specs.declared.tree.Section.TheVariants.{Document, Lookup, Definition, Repeat, Field}
use Rattle.n2k_wire.specs.Steps.{◌>>=◌, holds_or}

-- the most bytes of a name or a description
abbrev pub longest_text : ℕ
longest_text = 255

-- the bits of the longest message
abbrev pub message_bits : ℕ
message_bits = 1784

-- the bits within which a field ends, by what it is part of
abbrev pub end_of : Holder → ℕ
end_of Message = message_bits
end_of (Set bits) = bits

-- the key is one of these
abbrev pub is_among : List ℕ → List (List ℕ) → Bool
is_among key keys = list_any (λ k. bytes_eq key k) keys

-- From format 2 on a definition may have sets.
abbrev pub has_sets : TableFormat → Bool
has_sets One = false
has_sets Two = true
has_sets Three = true

-- Format 3 has more kinds of fields, and more keys.
abbrev pub is_extended : TableFormat → Bool
is_extended One = false
is_extended Two = false
is_extended Three = true

-- the keys that fields of a kind have beside those of every field
abbrev pub own_keys : FieldKind → List (List ℕ)
own_keys kind.Number = codes "signed" ∷ codes "resolution" ∷ []
own_keys kind.Lookup = codes "lookup" ∷ []
own_keys kind.Text = []
own_keys kind.Bytes = []
own_keys kind.Flags = codes "lookup" ∷ []
own_keys kind.Digits = []
own_keys kind.String = codes "form" ∷ []

-- the keys of a kind that only a table of format 3 may have
abbrev pub more_keys : FieldKind → List (List ℕ)
more_keys kind.Number = codes "offset" ∷ codes "unit" ∷ []
more_keys kind.Lookup = []
more_keys kind.Text = []
more_keys kind.Bytes = []
more_keys kind.Flags = []
more_keys kind.Digits = []
more_keys kind.String = []

-- A string has no bits: its own bytes say how long it is.
abbrev pub has_bits : FieldKind → Bool
has_bits kind.String = false
has_bits _ = true

-- the keys that give the place of a field of the kind
abbrev pub place_keys : FieldKind → List (List ℕ)
place_keys kind = if has_bits kind then codes "at" ∷ codes "bits" ∷ [] else codes "at" ∷ []

-- A text, bytes or a string of a message may be short. Each field of a set lies in it.
abbrev pub can_be_short : FieldKind → Holder → Bool
can_be_short kind.Text Message = true
can_be_short kind.Bytes Message = true
can_be_short kind.String Message = true
can_be_short _ _ = false

-- A number or a lookup's value of a message may be asked for. A field of a set can't ask.
abbrev pub can_match : FieldKind → Holder → Bool
can_match kind.Number Message = true
can_match kind.Lookup Message = true
can_match _ _ = false

-- whether a key is one that a field of the kind may have in format 3 alone
abbrev pub is_later_key : FieldKind → Holder → List ℕ → Bool
is_later_key kind holder key =
    is_among key (more_keys kind) || bytes_eq key (codes "after")
    || (can_be_short kind holder && bytes_eq key (codes "short"))

-- a section of the document may have the key
abbrev pub is_key : Section → List ℕ → Bool
is_key Document key = is_among key (codes "format" ∷ codes "lookup" ∷ codes "pgn" ∷ [])
is_key Lookup key = is_among key (codes "name" ∷ codes "entries" ∷ [])
is_key (Definition format) key =
    is_among key (codes "number" ∷ codes "kind" ∷ codes "description" ∷ codes "fields" ∷ [])
    || (has_sets format && bytes_eq key (codes "repeat"))
is_key (Repeat format) key =
    is_among key (codes "at" ∷ codes "bits" ∷ codes "fields" ∷ [])
    || (is_extended format && bytes_eq key (codes "after"))
is_key (Field format kind holder) key =
    is_among key (codes "name" ∷ codes "kind" ∷ place_keys kind)
    || is_among key (own_keys kind)
    || (is_extended format && is_later_key kind holder key)
    || (can_match kind holder && bytes_eq key (codes "match"))

-- each key of the table is one that such a section may have
abbrev pub has_only_keys : Section → Members → Bool
has_only_keys section no_members = true
has_only_keys section (member key d ms) = is_key section key && has_only_keys section ms

-- A table that has another key is refused.
abbrev pub check_keys : Section → Members → Result (Unit {0}) TableFault
check_keys section ms = holds_or Key (has_only_keys section ms)

-- the value at a key that has to be there
abbrev pub get_required : List ℕ → Members → Result Data TableFault
get_required key ms = ok_or (get_member key ms) Key

-- a value that has to be a table
abbrev pub as_members : Data → Result Members TableFault
as_members d = ok_or (as_table d) Key

-- an integer from least to most
abbrev pub in_range : ℕ → ℕ → ℤ → Result ℕ TableFault
in_range least most (pos n) = if nat_le least n && nat_le n most then Ok n else Err Range
in_range least most (negsuc n) = Err Range

abbrev pub int_at : List ℕ → ℕ → ℕ → Members → Result ℕ TableFault
int_at key least most ms = do
  d ← get_required key ms
  z ← ok_or (as_integer d) Key
  in_range least most z

-- a text of any length
abbrev pub any_text_at : List ℕ → Members → Result (List ℕ) TableFault
any_text_at key ms = do
  d ← get_required key ms
  ok_or (as_str d) Key

-- a text of 1 to 255 bytes
abbrev pub checked_text : List ℕ → Result (List ℕ) TableFault
checked_text text = if nat_le 1 (length text) && nat_le (length text) longest_text then Ok text else Err Text

abbrev pub text_at : List ℕ → Members → Result (List ℕ) TableFault
text_at key ms = do
  text ← any_text_at key ms
  checked_text text

-- a truth value, false if the key is missing
abbrev pub bool_or_false : Option Data → Result Bool TableFault
bool_or_false None = Ok false
bool_or_false (Some d) = ok_or (as_bool d) Key

abbrev pub bool_at : List ℕ → Members → Result Bool TableFault
bool_at key ms = bool_or_false (get_member key ms)

-- the elements of an array, as a list
abbrev pub elements : Items → List Data
elements no_items = []
elements (item d ds) = d ∷ elements ds

abbrev pub as_elements : Data → Result (List Data) TableFault
as_elements d = do
  ds ← ok_or (as_array d) Key
  Ok (elements ds)

-- no more elements than so many
abbrev pub at_most : ℕ → List Data → Result (List Data) TableFault
at_most most ds = if nat_le (length ds) most then Ok ds else Err TooMany

abbrev pub elements_at : List ℕ → ℕ → Members → Result (List Data) TableFault
elements_at key most ms = do
  d ← get_required key ms
  ds ← as_elements d
  at_most most ds

-- no element if the key is missing
abbrev pub elements_or_none : ℕ → Option Data → Result (List Data) TableFault
elements_or_none most None = Ok []
elements_or_none most (Some d) = do
  ds ← as_elements d
  at_most most ds
