-- Plain lines: `stamp,prio,pgn,src,dst,len,b0,b1,..`, the format that canboat's programs read and write.
use Rattle.std.specs.Prelude.{ℕ, ◌==◌, nat_le, Bool, false, if◌then◌else◌, List, [], ◌∷◌, ◌++◌, length, Option, Some}
use Rattle.std.specs.Prelude.{None, option_and_then, option_map, Result, Ok, Err}
use Rattle.std.specs.List.{slice_split}
use Rattle.std.specs.Result.{result_ok}
use Rattle.hex.specs.Hex.{decode_sized}
use Rattle.n2k_wire.specs.declared.entry.BadCause.{BadCause}
use Rattle.n2k_wire.specs.declared.entry.BadCause.TheVariants as causes
use Rattle.n2k_wire.specs.declared.entry.Entry.{Entry}
use Rattle.n2k_wire.specs.declared.entry.Entry.TheVariants as entries
use Rattle.n2k_wire.specs.declared.entry.Packing.{Packing}
use Rattle.n2k_wire.specs.declared.entry.Packing.TheVariants as packings
use Rattle.n2k_wire.specs.declared.identifier.Id.{Id}
use Rattle.n2k_wire.specs.Candump.{frame_payload}
use Rattle.n2k_wire.specs.Digits.{decimal_number}
use Rattle.n2k_wire.specs.Packet.{PacketParts, is_stamp, greatest_pgn, greatest_priority, longest_message}
use Rattle.n2k_wire.specs.Steps.{◌>>=◌, or_cause, holds_or, some_if}

-- the most digits of a number
abbrev pub most_number_digits : ℕ
most_number_digits = 10

-- the greatest address
abbrev pub greatest_address : ℕ
greatest_address = 255

-- the columns between the commas
abbrev pub columns : List ℕ → List (List ℕ)
columns text = slice_split (λ b. b == 44) text

-- a column as a number up to a limit
unfoldable pub number_to : ℕ → List ℕ → Option ℕ
number_to limit column = option_and_then (λ n. some_if (nat_le n limit) n) (decimal_number most_number_digits column)

-- a column of two hexadecimal digits, as the one byte that they spell
unfoldable pub pair : List ℕ → Option (List ℕ)
pair column = result_ok (decode_sized column 1)

-- each column as a byte
unfoldable pub pairs : List (List ℕ) → Option (List ℕ)
pairs [] = Some []
pairs (column ∷ more) = option_and_then (λ byte. option_map (λ bytes. byte ++ bytes) (pairs more)) (pair column)

-- the five columns after the stamp, and the columns after those
pub record Header : Type 0 where
  pub prio : List ℕ
  pub pgn : List ℕ
  pub src : List ℕ
  pub dst : List ℕ
  pub len : List ℕ
  pub more : List (List ℕ)

unfoldable pub header : List (List ℕ) → Option Header
header (prio ∷ pgn ∷ src ∷ dst ∷ len ∷ more) =
    Some (record { prio = prio; pgn = pgn; src = src; dst = dst; len = len; more = more })
header fewer = None

-- the identifier of four numbers in their ranges
unfoldable pub id_of : Header → Result Id BadCause
id_of h = do
  prio ← or_cause causes.Number (number_to greatest_priority h.prio)
  pgn ← or_cause causes.Number (number_to greatest_pgn h.pgn)
  src ← or_cause causes.Number (number_to greatest_address h.src)
  dst ← or_cause causes.Number (number_to greatest_address h.dst)
  Ok (record { prio = prio; pgn = pgn; src = src; dst = dst })

-- exactly so many columns, each as a byte
unfoldable pub bytes_of : ℕ → List (List ℕ) → Option (List ℕ)
bytes_of len more = if length more == len then pairs more else None

-- the packet of a plain line with these columns, or the first of its causes
unfoldable pub packet_of : List ℕ → List (List ℕ) → Result PacketParts BadCause
packet_of stamp more = do
  stamped ← holds_or causes.Stamp (is_stamp stamp)
  h ← or_cause causes.Form (header more)
  id ← id_of h
  len ← or_cause causes.Number (number_to longest_message h.len)
  bytes ← or_cause causes.Data (bytes_of len h.more)
  Ok (record { stamp = stamp; id = id; payload = bytes })

-- the packet of a plain line with these columns, the stamp included; there is always one column
abbrev pub packet_of_columns : List (List ℕ) → Result PacketParts BadCause
packet_of_columns [] = Err causes.Stamp
packet_of_columns (stamp ∷ more) = packet_of stamp more

abbrev pub plain_packet : List ℕ → Result PacketParts BadCause
plain_packet line = packet_of_columns (columns line)

-- whether a plain line with so many bytes is a frame, and no whole message
abbrev pub is_frame : Packing → ℕ → Bool
is_frame packings.Frames len = nat_le len frame_payload
is_frame packings.Whole len = false

-- the entry of a plain line's packet: a frame or a whole message
abbrev pub packed : Packing → PacketParts → Entry
packed packing p = if is_frame packing (length p.payload) then entries.Frame p else entries.Whole p

-- the entry of a plain line, or the first of its causes
abbrev pub plain : Packing → List ℕ → Result Entry BadCause
plain packing line = plain_packet line >>= (λ p. Ok (packed packing p))
