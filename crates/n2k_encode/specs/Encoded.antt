-- The promise: a message reads back as the fields that the line gives, and a line is refused only for the cause that the
-- rules determine.
use Rattle.std.specs.Prelude.{◌≡◌, ◌⊎◌, ℕ, Bool, true, false, ◌&&◌, ◌||◌, codes, List, Option, Some, None, Ok, Err, is_some, is_none}
use Rattle.std.specs.Str.{IsUtf8}
use Rattle.json.specs.Json.{Json, document}
use Rattle.json.specs.Strict.{HasUniqueKeys}
use Rattle.json.specs.Find.{as_str}
use Rattle.n2k_wire.specs.Identifier.{join}
use Rattle.n2k_wire.specs.Packet.{PacketParts}
use Rattle.n2k_table.specs.Definition.{DefinitionParts}
use Rattle.n2k_table.specs.Table.{TableParts, choice, kind}
use Rattle.n2k_encode.specs.Given.{given, first_unknown, wrong_names}
use Rattle.n2k_encode.specs.Payload.{encoded, is_data, is_meant, is_unmatched}
use Rattle.n2k_encode.specs.Reading.{shows_all}
use Rattle.n2k_encode.specs.Refusal.{CauseParts, not_json}
use Rattle.n2k_encode.specs.Request.{RequestParts, request}
use Rattle.n2k_encode.specs.Says.{has_pairs}
use Rattle.n2k_encode.specs.Steps.{is_some_with}

-- the greatest number of bytes in a line
abbrev pub longest_request : ℕ
longest_request = 65536

-- the JSON object of a line: in UTF-8, and no object in it has a key twice
pub record IsObjectOf (line : List ℕ) (j : Json) : Type 0 where
  pub utf8 : IsUtf8 line
  pub spelled : document line ≡ Some j
  pub unique : HasUniqueKeys j

-- the data show exactly the given fields, or the given fields and `match` values
abbrev pub shows_either : Bool → DefinitionParts → Json → List ℕ → Bool
shows_either nearest d fields payload =
    shows_all (record { nearest = nearest; adding = false }) d fields payload
    || shows_all (record { nearest = nearest; adding = true }) d fields payload

-- the data read back by this definition, and the line means this definition
abbrev pub reads_by : Bool → DefinitionParts → RequestParts → List ℕ → Bool
reads_by nearest d r payload =
    is_meant r.description d && is_none (wrong_names d r.fields) && shows_either nearest d r.fields payload

-- the line requests a message that no definition matches, with exactly these data
abbrev pub reads_unmatched : RequestParts → List ℕ → Bool
reads_unmatched r payload =
    is_unmatched r.description
    && is_none (first_unknown is_data r.fields)
    && is_some_with (λ j. is_some_with (has_pairs payload) (as_str j)) (given (codes "Data") r.fields)

abbrev pub reads_as : Bool → Option DefinitionParts → RequestParts → List ℕ → Bool
reads_as nearest (Some d) r payload = reads_by nearest d r payload
reads_as nearest None r payload = reads_unmatched r payload

-- A message that an object requests: it has the requested timestamp and identifier, which a CAN frame can carry. Its data
-- read back by the definition that the table chooses for them. The rules determine the message.
pub record IsEncoded (t : TableParts) (nearest : Bool) (j : Json) (p : PacketParts) : Type 0 where
  pub asked : RequestParts
  pub request_is : request j ≡ Some asked
  pub stamp_is : p.stamp ≡ asked.stamp
  pub id_is : p.id ≡ asked.id
  pub is_known : is_some (kind t p.id.pgn) ≡ true
  pub joins : is_some (join p.id) ≡ true
  pub reads_back : reads_as nearest (choice t p.id.pgn p.payload) asked p.payload ≡ true
  pub determined : encoded t nearest j ≡ Ok p

-- a message that a line requests
pub record IsEncodedLine (t : TableParts) (nearest : Bool) (line : List ℕ) (p : PacketParts) : Type 0 where
  pub object : Json
  pub is_object : IsObjectOf line object
  pub encoded : IsEncoded t nearest object p

-- the line is not such an object
abbrev pub IsNoObject : List ℕ → Type 0
IsNoObject line = (j : Json) → ¬ IsObjectOf line j

-- The cause for which a line of valid length is refused: the line is not such an object, or the rules determine the cause.
abbrev pub IsLineCause : TableParts → Bool → List ℕ → CauseParts → Type 0
IsLineCause t nearest line c =
    (IsNoObject line × (c ≡ not_json)) ⊎ ((j : Json) × IsObjectOf line j × (encoded t nearest j ≡ Err c))
