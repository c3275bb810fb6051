-- What repeats in a message: a set of fields, one after the other, as often as it lies
-- wholly in the data.
use Rattle.std.specs.Prelude.{ℕ, zero, suc, ◌+◌, ◌/◌, Bool, ◌||◌, nat_le, List, [], ◌∷◌, length, map, take, drop}
use Rattle.std.specs.Prelude.{Option, Some, None, option_map, unwrap_or, Result, Ok, if◌then◌else◌, codes}
use Rattle.std.specs.List.{list_any}
use Rattle.std.specs.Option.{option_and_then}
use Rattle.toml.specs.Data.{Data, get_member}
use Rattle.n2k_table.specs.declared.fault.TableFault.{TableFault}
use Rattle.n2k_table.specs.declared.fault.TableFault.TheVariants.{Range}
use Rattle.n2k_table.specs.declared.string_place.Step.{Step}
use Rattle.n2k_table.specs.declared.tree.Holder.TheVariants.{Set}
use Rattle.n2k_table.specs.declared.tree.TableFormat.{TableFormat}
use Rattle.n2k_table.specs.declared.tree.Section.TheVariants.{Repeat}
use Rattle.n2k_wire.specs.Steps.{◌>>=◌, holds_or}
use Rattle.n2k_table.specs.Tree.{message_bits, is_extended, check_keys, as_members}
use Rattle.n2k_table.specs.Lookup.{LookupParts}
use Rattle.n2k_table.specs.Strings.{taken, data_after}
use Rattle.n2k_table.specs.Field.{Meaning, string, FieldParts, is_string, first_bit, bit_count, steps_to, check_end}
use Rattle.n2k_table.specs.Fields.{fields}
use Rattle.n2k_table.specs.Shown.{ShownParts, all_shown}

-- What repeats: the first bit of the first set, the bits of a set beside those of its strings, the strings of the
-- message before the sets, from the first on, and the fields of a set, whose places count from the set's
-- first bit. If strings precede the sets, their first bit counts from the end of the last.
pub record RepeatParts : Type 0 where
  pub at : ℕ
  pub bits : ℕ
  pub after : List Step
  pub fields : List FieldParts

-- how many bytes a field of that meaning, at that bit of these data, adds to the bits of its set: a string its own, if
-- it is proper, and any other field 0
abbrev pub own_bytes : Meaning → ℕ → Option (List ℕ) → Option ℕ
own_bytes (string form) at rest = option_and_then (λ bytes. taken form (drop (at / 8) bytes)) rest
own_bytes _ at rest = Some 0

-- how many bytes the strings of a set have, if each is proper and the set begins with the first of these bytes
abbrev pub strings_size : List FieldParts → List ℕ → Option ℕ
strings_size [] bytes = Some 0
strings_size (f ∷ fs) bytes =
    option_and_then (λ n. option_map (λ m. n + m) (strings_size fs bytes))
    (own_bytes f.meaning f.at (data_after f.after bytes))

-- the first number, if it is at most the second
abbrev pub if_inside : ℕ → ℕ → Option ℕ
if_inside n all = if nat_le n all then Some n else None

-- how many bytes a set has that begins with the first of these bytes, if it lies wholly in them
abbrev pub set_size : RepeatParts → List ℕ → Option ℕ
set_size r bytes = option_and_then (λ n. if_inside (r.bits / 8 + n) (length bytes)) (strings_size r.fields bytes)

-- the sets with which these bytes begin, so many at most: one after the other, up to the first that does not lie
-- wholly in the bytes
abbrev pub sets_from : RepeatParts → ℕ → List ℕ → List (List ℕ)
sets_from r zero bytes = []
sets_from r (suc most) bytes =
    unwrap_or (option_map (λ n. take n bytes ∷ sets_from r most (drop n bytes)) (set_size r bytes)) []

-- All sets with which these bytes begin. Each set that a table spells has a byte, so there are no more of them than
-- bytes.
abbrev pub sets_in : RepeatParts → List ℕ → List (List ℕ)
sets_in r bytes = sets_from r (length bytes) bytes

-- the data from the first set on: none if a string before them has no end
abbrev pub from_first : RepeatParts → List ℕ → List ℕ
from_first r payload = drop (r.at / 8) (unwrap_or (data_after r.after payload) [])

-- the bytes of each set
abbrev pub sets : RepeatParts → List ℕ → List (List ℕ)
sets r payload = sets_in r (from_first r payload)

-- what each set shows, in order: its fields in the set's own bytes
abbrev pub all_sets : RepeatParts → List ℕ → List (List (List ℕ × ShownParts))
all_sets r payload = map (all_shown r.fields) (sets r payload)

-- From format 3 on the strings of a set may be all that it has.
abbrev pub least_set_bits : TableFormat → ℕ
least_set_bits format = if is_extended format then 0 else 1

-- the set has a byte, whatever the data are
abbrev pub has_some : ℕ → List FieldParts → Bool
has_some bits all = nat_le 1 bits || list_any (λ f. is_string f.meaning) all

-- The repeat that a value spells after these fields of a message, in a table of that format and of these lookups. Its
-- fields end within a set.
unfoldable pub repeat : TableFormat → List LookupParts → List FieldParts → Data → Result RepeatParts TableFault
repeat format lookups own d = do
  m ← as_members d
  known ← check_keys (Repeat format) m
  at ← first_bit 8 m
  bits ← bit_count 8 (least_set_bits format) message_bits m
  after ← steps_to own None (get_member (codes "after") m)
  inside ← check_end after at bits message_bits
  all ← fields format (Set bits) lookups m
  some ← holds_or Range (has_some bits all)
  Ok (record { at = at; bits = bits; after = after; fields = all })
