-- The JSON line of a message.
use Rattle.std.specs.Prelude.{ℕ, Bool, false, codes, decimal, List, [], ◌∷◌, ◌++◌, map, flat_map, Option, Some, None}
use Rattle.std.specs.Prelude.{if◌then◌else◌}
use Rattle.std.specs.List.{filter_map, join_with_byte}
use Rattle.n2k_wire.specs.Packet.{PacketParts}
use Rattle.n2k_wire.specs.declared.identifier.Id.{Id}
use Rattle.n2k_table.specs.Decimal.{dec}
use Rattle.n2k_table.specs.Repeat.{RepeatParts, all_sets}
use Rattle.n2k_table.specs.Definition.{DefinitionParts, list_name}
use Rattle.n2k_table.specs.Shown.{ShownParts, absent, number, name, text, utf8, wide, bytes, flags, digits, all_shown}
use Rattle.n2k_table.specs.Shown.{FlagParts, flag_name, flag_bit}
use Rattle.n2k_table.specs.Strings.{wide_text}
use Rattle.n2k_table.specs.Table.{TableParts, choice}
use Rattle.n2k_table.specs.Text.{text_json, character, hex_pairs, two_digits}

-- `,` and `:`
abbrev pub comma : ℕ
comma = 44

abbrev pub colon : ℕ
colon = 58

-- an array of values
abbrev pub array : List (List ℕ) → List ℕ
array values = codes "[" ++ join_with_byte comma values ++ codes "]"

-- a bit by its name or its number
abbrev pub flag_json : FlagParts → List ℕ
flag_json (flag_name n) = text_json n
flag_json (flag_bit i) = decimal i

-- what a field shows as a value; none if it is absent and absent fields are left out
abbrev pub value_json : Bool → ShownParts → Option (List ℕ)
value_json empty absent = if empty then Some (codes "null") else None
value_json empty (number value decimals) = Some (dec value decimals)
value_json empty (name n) = Some (text_json n)
value_json empty (text numbers) = Some (text_json (flat_map character numbers))
value_json empty (utf8 t) = Some (text_json t)
value_json empty (wide t) = Some (text_json (wide_text t))
value_json empty (bytes payload) = Some (text_json (hex_pairs payload))
value_json empty (digits payload) = Some (text_json (flat_map two_digits payload))
value_json empty (flags fs) = Some (array (map flag_json fs))

-- a name and its value
abbrev pub pair_json : List ℕ → Option (List ℕ) → Option (List ℕ)
pair_json key None = None
pair_json key (Some value) = Some (text_json key ++ colon ∷ value)

abbrev pub member_json : Bool → List ℕ × ShownParts → Option (List ℕ)
member_json empty f = pair_json f.0 (value_json empty f.1)

-- the members of the fields that are shown
abbrev pub members : Bool → List (List ℕ × ShownParts) → List (List ℕ)
members empty fields = filter_map (member_json empty) fields

-- an object of members
abbrev pub object : List (List ℕ) → List ℕ
object ms = codes "{" ++ join_with_byte comma ms ++ codes "}"

-- the object of a set
abbrev pub set_json : Bool → List (List ℕ × ShownParts) → List ℕ
set_json empty set = object (members empty set)

-- the sets as a member: an array of one object for each, also if there is none
abbrev pub list_json : Bool → List (List (List ℕ × ShownParts)) → List ℕ
list_json empty sets = text_json list_name ++ colon ∷ array (map (set_json empty) sets)

-- the member of what repeats in the data, if something does
abbrev pub repeat_members : Bool → Option RepeatParts → List ℕ → List (List ℕ)
repeat_members empty None payload = []
repeat_members empty (Some r) payload = list_json empty (all_sets r payload) ∷ []

-- the members of a message under a definition: its own fields, and last what repeats
abbrev pub message_members : Bool → DefinitionParts → List ℕ → List (List ℕ)
message_members empty d payload = members empty (all_shown d.fields payload) ++ repeat_members empty d.repeat payload

-- who sent what to whom
unfoldable pub id_json : Id → List ℕ
id_json id =
    codes ",\"prio\":" ++ decimal id.prio
    ++ codes ",\"src\":" ++ decimal id.src
    ++ codes ",\"dst\":" ++ decimal id.dst
    ++ codes ",\"pgn\":" ++ decimal id.pgn

-- the text before the fields, of a description as JSON
unfoldable pub header_json : List ℕ → PacketParts → List ℕ
header_json description_json m =
    codes "{\"timestamp\":" ++ text_json m.stamp
    ++ id_json m.id
    ++ codes ",\"description\":" ++ description_json
    ++ codes ",\"fields\":"

-- the line of a message with these members, with its LF
abbrev pub line_json : List ℕ → List (List ℕ) → PacketParts → List ℕ
line_json description ms m = header_json (text_json description) m ++ object ms ++ codes "}\n"

-- the line of a message that no definition matches: its data as they are (never absent, whatever `empty` says)
abbrev pub unmatched_json : PacketParts → List ℕ
unmatched_json m = line_json (codes "Unmatched") (members false ((codes "Data", bytes m.payload) ∷ [])) m

-- The line of a message under the definition that is chosen for it. Where there is none it is unmatched.
abbrev pub chosen_json : Option DefinitionParts → PacketParts → Bool → List ℕ
chosen_json (Some d) m empty = line_json d.description (message_members empty d m.payload) m
chosen_json None m empty = unmatched_json m

unfoldable pub json : TableParts → PacketParts → Bool → List ℕ
json t m empty = chosen_json (choice t m.id.pgn m.payload) m empty
