-- What a table says of a lookup, the names of some values, or the first fault that it has.
use Rattle.std.specs.Prelude.{ℕ, ℤ, Bool, not, nat_eq, codes, List, [], ◌∷◌, map, Option, Result, Ok, Err}
use Rattle.std.specs.Map.{lookup as value_at}
use Rattle.std.specs.Option.{ok_or}
use Rattle.std.specs.Str.{bytes_eq}
use Rattle.toml.specs.Data.{Data, Members, get_member, as_integer, as_str}
use Rattle.n2k_table.specs.declared.fault.TableFault.{TableFault}
use Rattle.n2k_table.specs.declared.fault.TableFault.TheVariants.{Key, Twice}
use Rattle.n2k_table.specs.declared.tree.Section.TheVariants.{Lookup}
use Rattle.n2k_wire.specs.Steps.{◌>>=◌, holds_or}
use Rattle.n2k_table.specs.Duplicate.{has_duplicate}
use Rattle.n2k_table.specs.Reading.{each}
use Rattle.n2k_table.specs.Tree.{check_keys, as_members, as_elements, text_at, checked_text, in_range, elements_at}
use Rattle.n2k_table.specs.Tree.{elements_or_none}

-- the most lookups of a table
abbrev pub most_lookups : ℕ
most_lookups = 1024

-- the most entries of a lookup
abbrev pub most_entries : ℕ
most_entries = 4096

-- the greatest value that an entry names, 32 bits
abbrev pub greatest_value : ℕ
greatest_value = 4294967295

-- a lookup: its name, and values with their names
pub record LookupParts : Type 0 where
  pub name : List ℕ
  pub entries : List (ℕ × List ℕ)

-- the name of a value, if it has one
abbrev pub name_of_value : List (ℕ × List ℕ) → ℕ → Option (List ℕ)
name_of_value entries value = value_at (nat_eq value) entries

-- an entry is an array of exactly an integer and a text
abbrev pub pair_in : List Data → Result (ℤ × List ℕ) TableFault
pair_in (value ∷ name ∷ []) = do
  z ← ok_or (as_integer value) Key
  text ← ok_or (as_str name) Key
  Ok (z, text)
pair_in _ = Err Key

-- a value with its name
unfoldable pub entry : Data → Result (ℕ × List ℕ) TableFault
entry d = do
  ds ← as_elements d
  pair ← pair_in ds
  value ← in_range 0 greatest_value pair.0
  name ← checked_text pair.1
  Ok (value, name)

-- No value comes twice.
abbrev pub once : List (ℕ × List ℕ) → Result (List (ℕ × List ℕ)) TableFault
once entries = do
  differ ← holds_or Twice (not (has_duplicate nat_eq (map (λ e. e.0) entries)))
  Ok entries

unfoldable pub entries : Members → Result (List (ℕ × List ℕ)) TableFault
entries m = do
  ds ← elements_at (codes "entries") most_entries m
  all ← each entry ds
  once all

unfoldable pub lookup : Data → Result LookupParts TableFault
lookup d = do
  m ← as_members d
  known ← check_keys Lookup m
  name ← text_at (codes "name") m
  all ← entries m
  Ok (record { name = name; entries = all })

-- two lookups have one name
abbrev pub is_same_lookup : LookupParts → LookupParts → Bool
is_same_lookup a b = bytes_eq a.name b.name

-- the lookups of the top level, none if it has no key `lookup`
unfoldable pub lookups : Members → Result (List LookupParts) TableFault
lookups top = do
  ds ← elements_or_none most_lookups (get_member (codes "lookup") top)
  all ← each lookup ds
  differ ← holds_or Twice (not (has_duplicate is_same_lookup all))
  Ok all
