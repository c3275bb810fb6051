-- The table that bytes spell, or their first fault, and what is looked up in it.
use Rattle.std.specs.Prelude.{ℕ, Bool, true, false, not, ◌&&◌, ◌==◌, codes, List, [], ◌∷◌, Option, Some, None}
use Rattle.std.specs.Prelude.{option_map}
use Rattle.std.specs.Prelude.{Result, Ok, Err, if◌then◌else◌}
use Rattle.std.specs.List.{list_all, find}
use Rattle.std.specs.Str.{is_utf8}
use Rattle.sha2.specs.Sha256.{sha256}
use Rattle.toml.specs.Data.{Members, get_member}
use Rattle.toml.specs.Parse.{parse_document}
use Rattle.n2k_table.specs.declared.definition.Kind.{Kind}
use Rattle.n2k_table.specs.declared.definition.Kind.TheVariants.{Single, Fast}
use Rattle.n2k_table.specs.declared.fault.TableFault.{TableFault}
use Rattle.n2k_table.specs.declared.fault.TableFault.TheVariants.{NotToml, Format, Mixed}
use Rattle.n2k_table.specs.declared.tree.TableFormat.{TableFormat}
use Rattle.n2k_table.specs.declared.tree.TableFormat.TheVariants.{One, Two, Three}
use Rattle.n2k_table.specs.declared.tree.Section.TheVariants.{Document}
use Rattle.n2k_wire.specs.Steps.{◌>>=◌, or_cause, holds_or}
use Rattle.n2k_table.specs.Bits.{raw}
use Rattle.n2k_table.specs.Duplicate.{has_duplicate}
use Rattle.n2k_table.specs.Reading.{each}
use Rattle.n2k_table.specs.Tree.{check_keys, int_at, elements_or_none}
use Rattle.n2k_table.specs.Lookup.{LookupParts, lookups}
use Rattle.n2k_table.specs.Field.{FieldParts}
use Rattle.n2k_table.specs.Shown.{lies_inside}
use Rattle.n2k_table.specs.Definition.{DefinitionParts, definition}

-- the most definitions of a table
abbrev pub most_definitions : ℕ
most_definitions = 4096

-- a table: which bytes it was read from, by their SHA-256, and its definitions in file order
pub record TableParts : Type 0 where
  pub id : List ℕ
  pub definitions : List DefinitionParts

-- the TOML 1.1 document that the bytes spell
abbrev pub document : List ℕ → Option Members
document bytes = if is_utf8 bytes then parse_document bytes else None

-- the newest format of a table
abbrev pub newest_format : ℕ
newest_format = 3

-- the format of a valid number; any other value at `format`, and none, is one fault
abbrev pub as_format : Result ℕ TableFault → Result TableFormat TableFault
as_format (Ok n) = Ok (if n == 1 then One else if n == 2 then Two else Three)
as_format (Err fault) = Err Format

-- the format that the top level says it is of
abbrev pub format_of : Members → Result TableFormat TableFault
format_of top = as_format (int_at (codes "format") 1 newest_format top)

abbrev pub is_same_kind : Kind → Kind → Bool
is_same_kind Single Single = true
is_same_kind Fast Fast = true
is_same_kind Single Fast = false
is_same_kind Fast Single = false

-- two definitions of one PGN have different kinds
abbrev pub are_mixed : DefinitionParts → DefinitionParts → Bool
are_mixed a b = (a.pgn == b.pgn) && not (is_same_kind a.kind b.kind)

-- the definitions of a top level of that format, in a table of these lookups; none if it has no key `pgn`
unfoldable pub definitions : TableFormat → List LookupParts → Members → Result (List DefinitionParts) TableFault
definitions format lookups top = do
  ds ← elements_or_none most_definitions (get_member (codes "pgn") top)
  all ← each (definition format lookups) ds
  agree ← holds_or Mixed (not (has_duplicate are_mixed all))
  Ok all

-- what a document spells. One that is of no format that is known is judged no further.
unfoldable pub top_level : Members → Result (List DefinitionParts) TableFault
top_level top = do
  format ← format_of top
  known ← check_keys Document top
  names ← lookups top
  definitions format names top

-- the table that the bytes spell, or their first fault
unfoldable pub read_table : List ℕ → Result TableParts TableFault
read_table bytes = do
  top ← or_cause NotToml (document bytes)
  all ← top_level top
  Ok (record { id = sha256 bytes; definitions = all })

-- the fault of what is read, if it has one, as a list
abbrev pub fault_in : Result TableParts TableFault → List TableFault
fault_in (Ok t) = []
fault_in (Err fault) = fault ∷ []

-- what is read, and an empty table if it has a fault
abbrev pub table_in : Result TableParts TableFault → TableParts
table_in (Ok t) = t
table_in (Err fault) = record { id = []; definitions = [] }

-- The same apart: the first fault of the bytes, and none if they spell a table; and that table.
abbrev pub faults : List ℕ → List TableFault
faults bytes = fault_in (read_table bytes)

abbrev pub table : List ℕ → TableParts
table bytes = table_in (read_table bytes)

-- the definition describes the PGN
abbrev pub is_of : ℕ → DefinitionParts → Bool
is_of pgn d = d.pgn == pgn

-- how a PGN is sent: as any of its definitions says, and nothing if there is none
abbrev pub kind : TableParts → ℕ → Option Kind
kind t pgn = option_map (λ d. d.kind) (find (is_of pgn) t.definitions)

-- a PGN that a table has
pub record KnownParts : Type 0 where
  pub table : TableParts
  pub pgn : ℕ

-- a field has the raw value that it asks for, or asks for none
abbrev pub has_match_value : Option ℕ → FieldParts → List ℕ → Bool
has_match_value None f payload = true
has_match_value (Some value) f payload = lies_inside f payload && raw payload f.at f.bits == value

abbrev pub field_matches : List ℕ → FieldParts → Bool
field_matches payload f = has_match_value f.match_value f payload

-- the data have what the fields of a definition ask for
abbrev pub matches : List ℕ → DefinitionParts → Bool
matches payload d = list_all (field_matches payload) d.fields

-- the definition that describes a message: the first of its PGN in file order that its data match
abbrev pub choice : TableParts → ℕ → List ℕ → Option DefinitionParts
choice t pgn payload = find (λ d. is_of pgn d && matches payload d) t.definitions
