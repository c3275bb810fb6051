-- The requested message: timestamp, identifier, description and fields.
use Rattle.std.specs.Prelude.{ℕ, nat_lt, nat_le, Bool, true, false, ◌&&◌, ◌||◌, codes, List, Option, Some, None}
use Rattle.std.specs.Prelude.{option_map, unwrap_or, if◌then◌else◌}
use Rattle.std.specs.Str.{bytes_eq}
use Rattle.json.specs.Json.{Json, null, boolean, number, string, array, object, Members, no_members, member}
use Rattle.json.specs.Find.{get, as_number, as_str}
use Rattle.fast_float.specs.Text.{scan}
use Rattle.n2k_wire.specs.declared.identifier.Id.{Id}
use Rattle.n2k_wire.specs.Packet.{is_stamp}
use Rattle.n2k_wire.specs.Steps.{some_if}
use Rattle.n2k_encode.specs.Numeral.{is_negative, digits_of, scaled, multiples}
use Rattle.n2k_encode.specs.Refusal.{CauseParts, not_json, member as bad_member}
use Rattle.n2k_encode.specs.Steps.{◌>>=◌}

-- the requested message: timestamp, identifier, the description if the line gives one, and the object `fields`
pub record RequestParts : Type 0 where
  pub stamp : List ℕ
  pub id : Id
  pub description : Option (List ℕ)
  pub fields : Json

-- the members that a line may have
abbrev pub is_member : List ℕ → Bool
is_member name =
    bytes_eq name (codes "pgn") || bytes_eq name (codes "fields") || bytes_eq name (codes "timestamp")
    || bytes_eq name (codes "prio") || bytes_eq name (codes "src") || bytes_eq name (codes "dst")
    || bytes_eq name (codes "description")

-- each member is known
abbrev pub has_known : Members → Bool
has_known no_members = true
has_known (member k j ms) = is_member k && has_known ms

-- an object whose members are all known
abbrev pub members_known : Json → Bool
members_known null = false
members_known (boolean b) = false
members_known (number s) = false
members_known (string s) = false
members_known (array js) = false
members_known (object ms) = has_known ms

-- the number, unless it is negative
abbrev pub not_below : Bool → ℕ → Option ℕ
not_below negative n = if negative && nat_lt 0 n then None else Some n

-- the value of a JSON number that is whole and not negative, in any spelling
unfoldable pub whole_number : List ℕ → Option ℕ
whole_number text = do
  size ← scaled 1 (scan (digits_of text))
  n ← multiples false 0 10 size
  not_below (is_negative text) n

-- the value of a JSON value that is a whole number from 0 to the limit
unfoldable pub whole_to : ℕ → Json → Option ℕ
whole_to limit j = do
  text ← as_number j
  n ← whole_number text
  some_if (nat_le n limit) n

-- the greatest PGN of the bus, priority and address
abbrev pub greatest_pgn : ℕ
greatest_pgn = 131071

abbrev pub greatest_priority : ℕ
greatest_priority = 7

abbrev pub greatest_address : ℕ
greatest_address = 255

-- the number of a member, or the default if it is missing
abbrev pub number_or : ℕ → ℕ → Option Json → Option ℕ
number_or other limit None = Some other
number_or other limit (Some j) = whole_to limit j

-- The PGN is required. Defaults are priority 6, source 0 and destination 255 (all).
unfoldable pub id_of : Json → Option Id
id_of j = do
  d ← get (codes "pgn") j
  pgn ← whole_to greatest_pgn d
  prio ← number_or 6 greatest_priority (get (codes "prio") j)
  src ← number_or 0 greatest_address (get (codes "src") j)
  dst ← number_or 255 greatest_address (get (codes "dst") j)
  Some (record { prio = prio; pgn = pgn; src = src; dst = dst })

-- the text of a member, if the line has the member
abbrev pub optional_text : Option Json → Option (Option (List ℕ))
optional_text None = Some None
optional_text (Some j) = option_map Some (as_str j)

-- the default timestamp
abbrev pub first_stamp : List ℕ
first_stamp = codes "1970-01-01T00:00:00.000Z"

unfoldable pub stamp_of : Json → Option (List ℕ)
stamp_of j = do
  text ← optional_text (get (codes "timestamp") j)
  some_if (is_stamp (unwrap_or text first_stamp)) (unwrap_or text first_stamp)

abbrev pub is_object : Json → Bool
is_object null = false
is_object (boolean b) = false
is_object (number s) = false
is_object (string s) = false
is_object (array js) = false
is_object (object ms) = true

-- the member `fields`, if it is an object
unfoldable pub fields_of : Json → Option Json
fields_of j = do
  d ← get (codes "fields") j
  some_if (is_object d) d

-- the cause if a value requests no message
abbrev pub no_request : Json → CauseParts
no_request j = if is_object j then bad_member else not_json

-- the message that the object of a line requests
unfoldable pub request : Json → Option RequestParts
request j = do
  known ← some_if (members_known j) j
  fields ← fields_of j
  id ← id_of j
  stamp ← stamp_of j
  description ← optional_text (get (codes "description") j)
  Some (record { stamp = stamp; id = id; description = description; fields = fields })
