-- A JSON line as the code appends it: bytes that stand for themselves, and the parts of a line.
use Rattle.std.specs.Prelude.{ℕ, ◌==◌, Bool, true, false, not, ◌&&◌, nat_le, nat_lt, codes, decimal, List, [], ◌∷◌}
use Rattle.std.specs.Prelude.{◌++◌}
use Rattle.std.specs.Prelude.{Option, Some, None, if◌then◌else◌}
use Rattle.n2k_wire.specs.Packet.{PacketParts}
use Rattle.n2k_wire.specs.declared.identifier.Id.{Id}
use Rattle.n2k_table.specs.declared.line.AbsentFields.{AbsentFields}
use Rattle.n2k_table.specs.declared.line.AbsentFields.TheVariants.{LeftOut, Null}
use Rattle.n2k_table.specs.Text.{text_json}
use Rattle.n2k_table.specs.Json.{comma, colon}

-- a byte that JSON writes as it is: not below the space, not a quote, not a backslash
abbrev pub is_plain : ℕ → Bool
is_plain b = nat_le 32 b && not (b == 34) && not (b == 92)

-- a plain byte of ASCII, which is a character of its own
abbrev pub is_plain_character : ℕ → Bool
is_plain_character b = is_plain b && nat_lt b 128

-- a byte from `-` to `Z`, as digits and upper letters are: each is plain
abbrev pub is_usual : ℕ → Bool
is_usual b = nat_le 45 b && nat_le b 90

-- who sent what to whom, up to the PGN
unfoldable pub sender_json : Id → List ℕ
sender_json id =
    codes ",\"prio\":" ++ decimal id.prio ++ codes ",\"src\":" ++ decimal id.src ++ codes ",\"dst\":" ++ decimal id.dst

-- the text before the PGN
unfoldable pub before_pgn_json : PacketParts → List ℕ
before_pgn_json m = codes "{\"timestamp\":" ++ text_json m.stamp ++ sender_json m.id

-- what a definition puts between that and the members
unfoldable pub label_json : ℕ → List ℕ → List ℕ
label_json pgn description =
    codes ",\"pgn\":" ++ decimal pgn ++ codes ",\"description\":" ++ text_json description ++ codes ",\"fields\":{"

-- whether a field that shows nothing is a member that is `null`
abbrev pub are_null : AbsentFields → Bool
are_null LeftOut = false
are_null Null = true

-- a member precedes the next
abbrev pub has_members : List (List ℕ) → Bool
has_members [] = false
has_members (m ∷ ms) = true

-- the text before the value of a member, with a comma if a member precedes
abbrev pub key_json : Bool → List ℕ → List ℕ
key_json later key = (if later then comma ∷ [] else []) ++ (text_json key ++ colon ∷ [])

-- a member after those before it
abbrev pub member_text : Bool → Option (List ℕ) → List ℕ
member_text later None = []
member_text later (Some member) = (if later then comma ∷ [] else []) ++ member
