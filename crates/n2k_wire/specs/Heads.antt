-- Lines by how they begin and end. The lines of a message's frames differ in their ends alone.
use Rattle.std.specs.Prelude.{ℕ, ◌==◌, Bool, false, if◌then◌else◌, List, [], ◌∷◌, ◌++◌, length, codes}
use Rattle.std.specs.List.{flat_map}
use Rattle.hex.specs.Hex.{encode_upper}
use Rattle.n2k_wire.specs.Packet.{PacketParts}
use Rattle.n2k_wire.specs.Texts.{byte_column, number_column}

-- a plain line up to its destination
abbrev pub plain_head : PacketParts → List ℕ
plain_head p =
    p.stamp ++ number_column p.id.prio ++ number_column p.id.pgn ++ number_column p.id.src ++ number_column p.id.dst

-- the rest of a plain line: the length, the data and the LF
abbrev pub plain_end : List ℕ → List ℕ
plain_end payload = number_column (length payload) ++ flat_map byte_column payload ++ codes "\n"

-- the rest of a candump line after the `#`
abbrev pub candump_end : List ℕ → List ℕ
candump_end payload = encode_upper payload ++ codes "\n"

-- a candump line begins with `(`, and a plain line with another byte
abbrev pub begins_candump : List ℕ → Bool
begins_candump [] = false
begins_candump (b ∷ bs) = b == 40

-- the line that begins so, with its LF, by its data
abbrev pub line_after : List ℕ → List ℕ → List ℕ
line_after head payload = head ++ (if begins_candump head then candump_end payload else plain_end payload)
