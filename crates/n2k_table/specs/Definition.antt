-- What a table says of one message, or the first fault that its definition has.
use Rattle.std.specs.Prelude.{ℕ, not, codes, List, Option, Some, None, Result, Ok, Err, if◌then◌else◌}
use Rattle.std.specs.List.{list_any}
use Rattle.std.specs.Str.{bytes_eq}
use Rattle.toml.specs.Data.{Data, Members, get_member}
use Rattle.n2k_wire.specs.Packet.{greatest_pgn}
use Rattle.n2k_table.specs.declared.definition.Kind.{Kind}
use Rattle.n2k_table.specs.declared.definition.Kind.TheVariants.{Single, Fast}
use Rattle.n2k_table.specs.declared.fault.TableFault.{TableFault}
use Rattle.n2k_table.specs.declared.fault.TableFault.TheVariants.{Text, Twice}
use Rattle.n2k_table.specs.declared.tree.TableFormat.{TableFormat}
use Rattle.n2k_table.specs.declared.tree.Holder.TheVariants.{Message}
use Rattle.n2k_table.specs.declared.tree.Section.TheVariants.{Definition}
use Rattle.n2k_wire.specs.Steps.{◌>>=◌, holds_or}
use Rattle.n2k_table.specs.Tree.{check_keys, as_members, int_at, any_text_at, text_at}
use Rattle.n2k_table.specs.Lookup.{LookupParts}
use Rattle.n2k_table.specs.Field.{FieldParts}
use Rattle.n2k_table.specs.Fields.{has_name, fields}
use Rattle.n2k_table.specs.Repeat.{RepeatParts, repeat}

-- a definition: the PGN that it describes, how that is sent, its own fields in printing order, and what repeats after
-- them, if something does
pub record DefinitionParts : Type 0 where
  pub pgn : ℕ
  pub kind : Kind
  pub description : List ℕ
  pub fields : List FieldParts
  pub repeat : Option RepeatParts

-- how a PGN is sent: in single frames or as fast packets
abbrev pub named_kind : List ℕ → Result Kind TableFault
named_kind text =
    if bytes_eq text (codes "single") then Ok Single else (if bytes_eq text (codes "fast") then Ok Fast else Err Text)

abbrev pub kind_of : Members → Result Kind TableFault
kind_of m = do
  text ← any_text_at (codes "kind") m
  named_kind text

-- the name of the member that holds the sets of a message
abbrev pub list_name : List ℕ
list_name = codes "list"

-- The sets that follow these fields, if there are sets. None of the fields is named as their member.
abbrev pub repeat_if_there : TableFormat → List LookupParts → List FieldParts → Option Data
    → Result (Option RepeatParts) TableFault
repeat_if_there format lookups own None = Ok None
repeat_if_there format lookups own (Some d) = do
  sets ← repeat format lookups own d
  free ← holds_or Twice (not (list_any (has_name list_name) own))
  Ok (Some sets)

-- the definition that a value spells, in a table of that format and of these lookups
unfoldable pub definition : TableFormat → List LookupParts → Data → Result DefinitionParts TableFault
definition format lookups d = do
  m ← as_members d
  known ← check_keys (Definition format) m
  pgn ← int_at (codes "number") 0 greatest_pgn m
  kind ← kind_of m
  description ← text_at (codes "description") m
  own ← fields format Message lookups m
  sets ← repeat_if_there format lookups own (get_member (codes "repeat") m)
  Ok (record { pgn = pgn; kind = kind; description = description; fields = own; repeat = sets })
