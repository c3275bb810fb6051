-- The message that an object requests, or the first cause of its refusal: docs/PROFILE.md, "The definition" and "Reports".
use Rattle.std.specs.Prelude.{ℕ, nat_le, Bool, true, false, not, ◌&&◌, codes, List, [], ◌∷◌, length, map, take, filter}
use Rattle.std.specs.Prelude.{Option, Some, None, Result, Ok, Err, is_none, is_some, unwrap_or, slice_get, if◌then◌else◌}
use Rattle.std.specs.List.{enumerate_from, list_all}
use Rattle.std.specs.Option.{option_and_then}
use Rattle.std.specs.Str.{bytes_eq}
use Rattle.json.specs.Find.{as_str}
use Rattle.json.specs.Json.{Json}
use Rattle.n2k_wire.specs.Identifier.{join}
use Rattle.n2k_wire.specs.Packet.{PacketParts}
use Rattle.n2k_wire.specs.Steps.{◌>>=◌, or_cause, holds_or, some_if}
use Rattle.n2k_table.specs.declared.definition.Kind.{Kind}
use Rattle.n2k_table.specs.Definition.{DefinitionParts, list_name}
use Rattle.n2k_table.specs.Field.{FieldParts}
use Rattle.n2k_table.specs.Table.{TableParts, KnownParts, choice, is_of, kind, matches}
use Rattle.n2k_encode.specs.declared.draft.Draft.{Draft}
use Rattle.n2k_encode.specs.declared.reading.Reading.{Reading}
use Rattle.n2k_encode.specs.Draft.{draft_for, most_data}
use Rattle.n2k_encode.specs.Given.{given, first_unknown, wrong_names}
use Rattle.n2k_encode.specs.Reading.{first_wrong, shows_all}
use Rattle.n2k_encode.specs.Refusal.{CauseParts, unknown, address, description, value, size, none_shows}
use Rattle.n2k_encode.specs.Request.{RequestParts, request, no_request}
use Rattle.n2k_encode.specs.Steps.{first_of, is_some_with}
use Rattle.n2k_encode.specs.Texts.{hex_bytes, most_bytes}

-- the line gives the description of this definition, or no description
abbrev pub is_meant : Option (List ℕ) → DefinitionParts → Bool
is_meant None d = true
is_meant (Some text) d = bytes_eq d.description text

-- the only field of an unmatched message
abbrev pub is_data : List ℕ → Bool
is_data name = bytes_eq name (codes "Data")

-- the line has the description of a message that no definition matches
abbrev pub is_unmatched : Option (List ℕ) → Bool
is_unmatched asked = is_some_with (λ text. bytes_eq text (codes "Unmatched")) asked

-- the data match the definition at index k, and no definition before it
abbrev pub is_chosen : List ℕ → List DefinitionParts → ℕ → Bool
is_chosen payload ds k =
    list_all (λ d. not (matches payload d)) (take k ds) && is_some_with (matches payload) (slice_get ds k)

-- the definitions of a PGN
abbrev pub definitions_of : KnownParts → List DefinitionParts
definitions_of k = filter (is_of k.pgn) k.table.definitions

-- The first n bytes of a draft, if they read back: their number is valid, the table chooses the definition at index k for
-- them, and they show exactly the given fields.
abbrev pub cut : List DefinitionParts → Kind → ℕ → DefinitionParts → Reading → Json → List ℕ → ℕ → Option (List ℕ)
cut ds kind k d reading fields payload n =
    some_if (nat_le n (most_data kind) && is_chosen (take n payload) ds k && shows_all reading d fields (take n payload))
    (take n payload)

-- The draft up to its last field, if that reads back; otherwise the draft up to the last field that is given or has
-- `match`. None if two given fields disagree about a bit.
abbrev pub cut_draft : List DefinitionParts → Kind → ℕ → DefinitionParts → Reading → Json → Draft → Option (List ℕ)
cut_draft ds kind k d reading fields draft =
    if draft.agree then
    first_of (cut ds kind k d reading fields draft.bytes draft.whole)
    (cut ds kind k d reading fields draft.bytes draft.needed)
    else None

abbrev pub name_or : List ℕ → Option FieldParts → List ℕ
name_or other None = other
name_or other (Some f) = f.name

abbrev pub name_of_first : List FieldParts → List ℕ
name_of_first [] = []
name_of_first (f ∷ fs) = f.name

-- the name of what may be at fault if each field of the definition shows its given value: `list` if the definition has
-- sets, otherwise its first field
abbrev pub other_name : DefinitionParts → List ℕ
other_name d = if is_some d.repeat then list_name else name_of_first d.fields

-- the name of the first field of the definition that does not show its given value in the draft
abbrev pub culprit : DefinitionParts → Reading → Json → Draft → List ℕ
culprit d reading fields draft =
    name_or (other_name d) (first_wrong reading fields (take draft.whole draft.bytes) d.fields)

abbrev pub unless : Option CauseParts → Result (Unit {0}) CauseParts
unless None = Ok tt
unless (Some cause) = Err cause

-- the data by the definition at index k, or the cause of its refusal
unfoldable pub data_by : List DefinitionParts → Kind → Reading → RequestParts → ℕ → DefinitionParts → Result (List ℕ) CauseParts
data_by ds kind reading r k d = do
  known ← unless (wrong_names d r.fields)
  draft ← draft_for reading.nearest d kind r.fields
  or_cause (none_shows (culprit d reading r.fields draft)) (cut_draft ds kind k d reading r.fields draft)

-- The data of the first try that succeeds. If no try succeeds: the cause of the first try.
abbrev pub first_data : Option CauseParts → List (Result (List ℕ) CauseParts) → Result (List ℕ) CauseParts
first_data earlier [] = Err (unwrap_or earlier description)
first_data earlier (Ok payload ∷ others) = Ok payload
first_data earlier (Err cause ∷ others) = first_data (first_of earlier (Some cause)) others

-- one try for each definition with the requested description, in the order of the table
abbrev pub tries : List DefinitionParts → Kind → Reading → RequestParts → List (ℕ × DefinitionParts) → List (Result (List ℕ) CauseParts)
tries ds kind reading r places =
    map (λ e. data_by ds kind reading r e.0 e.1) (filter (λ e. is_meant r.description e.1) places)

abbrev pub data_in : List DefinitionParts → Kind → Reading → RequestParts → Result (List ℕ) CauseParts
data_in ds kind reading r = first_data None (tries ds kind reading r (enumerate_from 0 ds))

-- the first result, or the second if the first is a refusal
abbrev pub or_else : Result (List ℕ) CauseParts → Result (List ℕ) CauseParts → Result (List ℕ) CauseParts
or_else (Ok payload) other = Ok payload
or_else (Err cause) other = other

-- All definitions are tried without adding anything; if no try succeeds, fields with `match` may be added.
abbrev pub matched : List DefinitionParts → Kind → Bool → RequestParts → Result (List ℕ) CauseParts
matched ds kind nearest r =
    or_else (data_in ds kind (record { nearest = nearest; adding = false }) r)
    (data_in ds kind (record { nearest = nearest; adding = true }) r)

-- the bytes of the field `Data`
abbrev pub given_data : Json → Option (List ℕ)
given_data fields = option_and_then hex_bytes (option_and_then as_str (given (codes "Data") fields))

-- Refuses the value if it is not bytes, and the size if there are too many.
abbrev pub sized : Option (List ℕ) → Result (List ℕ) CauseParts
sized None = Err (value (codes "Data"))
sized (Some bs) = if nat_le (length bs) most_bytes then Ok bs else Err size

-- The line requests bytes: its description is `Unmatched`, and its only field is `Data`.
abbrev pub means_bytes : RequestParts → Bool
means_bytes r =
    is_unmatched r.description && is_none (first_unknown is_data r.fields) && is_some (given (codes "Data") r.fields)

-- the requested bytes, if no definition matches them
unfoldable pub unmatched : TableParts → Kind → RequestParts → Result (List ℕ) CauseParts
unmatched t kind r = do
  payload ← sized (given_data r.fields)
  few ← holds_or size (nat_le (length payload) (most_data kind))
  free ← holds_or (none_shows (codes "Data")) (is_none (choice t r.id.pgn payload))
  Ok payload

-- Bytes are tried before definitions, which may have the description `Unmatched` too.
abbrev pub bytes_first : Bool → Result (List ℕ) CauseParts → Result (List ℕ) CauseParts → Result (List ℕ) CauseParts
bytes_first meant by_bytes by_definitions = if meant then first_data None (by_bytes ∷ by_definitions ∷ []) else by_definitions

abbrev pub payload_for : TableParts → Kind → Bool → RequestParts → Result (List ℕ) CauseParts
payload_for t kind nearest r =
    bytes_first (means_bytes r) (unmatched t kind r) (matched (filter (is_of r.id.pgn) t.definitions) kind nearest r)

-- the message that an object requests, or the first cause that applies
unfoldable pub encoded : TableParts → Bool → Json → Result PacketParts CauseParts
encoded t nearest j = do
  r ← or_cause (no_request j) (request j)
  kind ← or_cause unknown (kind t r.id.pgn)
  carried ← or_cause address (join r.id)
  payload ← payload_for t kind nearest r
  Ok (record { stamp = r.stamp; id = r.id; payload = payload })
