-- The fields of a message or of a set, or the first fault that they have.
use Rattle.std.specs.Prelude.{ℕ, Bool, not, codes, List, [], Result, Ok}
use Rattle.std.specs.Str.{bytes_eq}
use Rattle.toml.specs.Data.{Members}
use Rattle.n2k_table.specs.declared.fault.TableFault.{TableFault}
use Rattle.n2k_table.specs.declared.fault.TableFault.TheVariants.{Twice}
use Rattle.n2k_table.specs.declared.tree.Holder.{Holder}
use Rattle.n2k_table.specs.declared.tree.TableFormat.{TableFormat}
use Rattle.n2k_wire.specs.Steps.{◌>>=◌, holds_or}
use Rattle.n2k_table.specs.Duplicate.{has_duplicate}
use Rattle.n2k_table.specs.Reading.{each_by_earlier}
use Rattle.n2k_table.specs.Tree.{elements_at}
use Rattle.n2k_table.specs.Lookup.{LookupParts}
use Rattle.n2k_table.specs.Field.{FieldParts, field}

-- the most fields of a message, and of a set
abbrev pub most_fields : ℕ
most_fields = 256

-- the field has the name
abbrev pub has_name : List ℕ → FieldParts → Bool
has_name name f = bytes_eq name f.name

-- two fields have one name
abbrev pub is_same_field : FieldParts → FieldParts → Bool
is_same_field a b = has_name a.name b

-- the fields of a definition or of a repeat, in a table of that format and of these lookups
unfoldable pub fields : TableFormat → Holder → List LookupParts → Members → Result (List FieldParts) TableFault
fields format holder lookups m = do
  ds ← elements_at (codes "fields") most_fields m
  all ← each_by_earlier (field format holder lookups) [] ds
  differ ← holds_or Twice (not (has_duplicate is_same_field all))
  Ok all
