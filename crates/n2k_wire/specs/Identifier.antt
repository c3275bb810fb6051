-- The 29 bits of a CAN identifier, as NMEA 2000 takes them over from ISO 11783-3. From the low end: the source
-- address, PDU specific and PDU format (eight bits each), data page and reserved bit (two), the priority (three).
use Rattle.std.specs.Prelude.{ℕ, ◌+◌, ◌*◌, ◌/◌, ◌%◌, ◌^◌, ◌==◌, ◌&&◌, nat_lt, Bool, if◌then◌else◌, Option, Some, None}
use Rattle.n2k_wire.specs.declared.identifier.Id.{Id}

abbrev pub source : ℕ → ℕ
source n = n % 2 ^ 8

abbrev pub pdu_specific : ℕ → ℕ
pdu_specific n = n / 2 ^ 8 % 2 ^ 8

abbrev pub pdu_format : ℕ → ℕ
pdu_format n = n / 2 ^ 16 % 2 ^ 8

-- the reserved bit and the data page
abbrev pub data_page : ℕ → ℕ
data_page n = n / 2 ^ 24 % 2 ^ 2

abbrev pub priority : ℕ → ℕ
priority n = n / 2 ^ 26 % 2 ^ 3

-- below this format a PDU is for one address (PDU1), from it on for all (PDU2)
abbrev pub first_broadcast_format : ℕ
first_broadcast_format = 240

-- the address of all devices
abbrev pub everyone : ℕ
everyone = 255

-- the parts of an identifier. In a PDU1 the specific byte is the destination, in a PDU2 the low byte of the PGN.
unfoldable pub split : ℕ → Id
split n =
    if nat_lt (pdu_format n) first_broadcast_format
    then record {
      prio = priority n;
      pgn = data_page n * 2 ^ 16 + pdu_format n * 2 ^ 8;
      src = source n;
      dst = pdu_specific n;
    }
    else record {
      prio = priority n;
      pgn = data_page n * 2 ^ 16 + pdu_format n * 2 ^ 8 + pdu_specific n;
      src = source n;
      dst = everyone;
    }

-- the PDU format and the PDU specific byte that a PGN holds
abbrev pub format_of_pgn : ℕ → ℕ
format_of_pgn pgn = pgn / 2 ^ 8 % 2 ^ 8

abbrev pub low_byte : ℕ → ℕ
low_byte pgn = pgn % 2 ^ 8

-- whether a PGN is one of PDUs for one address
abbrev pub is_addressed : ℕ → Bool
is_addressed pgn = nat_lt (format_of_pgn pgn) first_broadcast_format

-- Whether an identifier of 29 bits has these parts: the priority has three bits and the PGN eighteen; of a PDU1 the PGN
-- has no low byte, and a PDU2 is for all.
unfoldable pub is_joinable : Id → Bool
is_joinable id =
    nat_lt id.prio (2 ^ 3) && nat_lt id.pgn (2 ^ 18)
    && (if is_addressed id.pgn then low_byte id.pgn == 0 else id.dst == everyone)

-- the PDU specific byte: in a PDU1 the destination, in a PDU2 the low byte of the PGN
abbrev pub specific_of : Id → ℕ
specific_of id = if is_addressed id.pgn then id.dst else low_byte id.pgn

-- the identifier with these parts, if there is one
unfoldable pub join : Id → Option ℕ
join id =
    if is_joinable id
    then Some (id.prio * 2 ^ 26 + id.pgn / 2 ^ 8 * 2 ^ 16 + specific_of id * 2 ^ 8 + id.src)
    else None
