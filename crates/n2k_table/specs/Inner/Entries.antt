-- The entries of a lookup, and the lookups of a table, as the code's maps have them.
use Rattle.std.specs.Prelude.{◌≡◌, ℕ, ◌<◌, nat_eq, None, not, List, String, string_bytes, map, Result, Ok}
use Rattle.std.specs.List.{AllByRecursion}
use Rattle.std.specs.Map.{lookup as value_at}
use Rattle.std.specs.declared.alloc.Global.{Global}
use Rattle.indexmap.specs.IndexMap.{IndexMap}
use Rattle.n2k_table.specs.declared.fault.TableFault.{TableFault}
use Rattle.n2k_table.specs.declared.fault.TableFault.TheVariants.{Twice}
use Rattle.n2k_wire.specs.Steps.{◌>>=◌, holds_or}
use Rattle.n2k_table.specs.Duplicate.{has_duplicate}
use Rattle.n2k_table.specs.Lookup.{LookupParts, is_same_lookup}

abbrev pub entry_pair : ℕ × List ℕ → ℕ × List ℕ
entry_pair e = (e.0, e.1)

-- the entries of the map, in its order
abbrev pub map_entries : {S : Type 0} → IndexMap ℕ (List ℕ) S → List (ℕ × List ℕ)
map_entries names = map entry_pair names.entries

-- no value above this one has a name
abbrev pub HasNoneAbove : {R : Type 0} → List (ℕ × R) → ℕ → Type 0
HasNoneAbove entries most = (value : ℕ) → most < value → value_at (nat_eq value) entries ≡ None

-- each lookup is found by its name; how a lookup is seen is given
abbrev pub AreNamed : {R : Type 0} → (R → LookupParts) → List (String Global × R) → Type 0
AreNamed value entries = AllByRecursion (λ e. string_bytes e.0 ≡ (value e.1).name) entries

-- No two lookups have one name.
abbrev pub apart : List LookupParts → Result (List LookupParts) TableFault
apart all = do
  differ ← holds_or Twice (not (has_duplicate is_same_lookup all))
  Ok all
