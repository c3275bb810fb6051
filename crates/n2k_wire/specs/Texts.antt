-- Packets as texts.
use Rattle.std.specs.Prelude.{◌≡◌, ℕ, List, [], ◌∷◌, ◌++◌, length, drop, codes, decimal, Result, Ok, Err, OnOk, IfErr}
use Rattle.std.specs.Int.{w32, to_be_bytes}
use Rattle.std.specs.List.{flat_map}
use Rattle.hex.specs.Hex.{encode_lower, encode_upper}
use Rattle.n2k_wire.specs.declared.fault.WireFault.{WireFault}
use Rattle.n2k_wire.specs.declared.fault.WireFault.TheVariants.{NoStamp, NoId, Memory}
use Rattle.n2k_wire.specs.Identifier.{join}
use Rattle.n2k_wire.specs.Packet.{PacketParts}
use Rattle.n2k_wire.specs.Stamp.{Moment, millis_digits, utc_moment}
use Rattle.n2k_wire.specs.Steps.{◌>>=◌, or_cause}

-- a byte as a piece of a plain line: a comma and two digits in lower case
abbrev pub byte_column : ℕ → List ℕ
byte_column b = 44 ∷ encode_lower (b ∷ [])

-- a number as a piece of a plain line
abbrev pub number_column : ℕ → List ℕ
number_column n = 44 ∷ decimal n

-- `stamp,prio,pgn,src,dst,len,b0,b1,..`
unfoldable pub plain_line : PacketParts → List ℕ
plain_line p =
    p.stamp ++ number_column p.id.prio ++ number_column p.id.pgn ++ number_column p.id.src ++ number_column p.id.dst
    ++ number_column (length p.payload) ++ flat_map byte_column p.payload

-- a plain line with its LF
abbrev pub plain_text : PacketParts → List ℕ
plain_text p = plain_line p ++ codes "\n"

-- seconds as at least ten digits, with leading zeros up to ten
abbrev pub second_digits : ℕ → List ℕ
second_digits n = drop (length (decimal n)) (codes "0000000000") ++ decimal n

-- `(0000000010.300000) can0 1DFF0405#000BA39901414243`, of a moment, the 29 bits of an identifier and the data
unfoldable pub candump_line : List ℕ → Moment → ℕ → List ℕ → List ℕ
candump_line interface seen identifier payload =
    codes "(" ++ second_digits seen.seconds ++ codes "." ++ millis_digits seen.millis ++ codes "000) "
    ++ interface ++ codes " "
    ++ encode_upper (to_be_bytes w32 identifier) ++ codes "#" ++ encode_upper payload

-- The parts of a packet that candump writes before its data: the moment of its stamp and its identifier. The first part
-- that doesn't exist is the fault.
unfoldable pub candump_parts : PacketParts → Result (Moment × ℕ) WireFault
candump_parts p = do
  seen ← or_cause NoStamp (utc_moment p.stamp)
  identifier ← or_cause NoId (join p.id)
  Ok (seen, identifier)

-- the candump line of a packet as it is seen at an interface, with its LF
abbrev pub candump_text : List ℕ → PacketParts → Result (List ℕ) WireFault
candump_text interface p =
    candump_parts p >>= (λ parts. Ok (candump_line interface parts.0 parts.1 p.payload ++ codes "\n"))

-- A result of a call that appends this text: the text is appended, or memory is refused. If there is no text, its fault
-- is returned.
abbrev pub Appends : Result (List ℕ) WireFault → Result (Unit {0}) WireFault → List ℕ → List ℕ → Type 0
Appends (Ok text) answer old new = OnOk answer (new ≡ old ++ text) × IfErr answer (λ fault. fault ≡ Memory)
Appends (Err fault) answer old new = answer ≡ Err fault
