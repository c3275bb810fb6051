-- A packet as contracts see it: its parts, and which parts are valid.
use Rattle.std.specs.Prelude.{ℕ, ◌≤◌, Bool, false, not, ◌&&◌, ◌==◌, nat_le, List, [], ◌∷◌, length, IsTrue}
use Rattle.std.specs.List.{list_all}
use Rattle.hex.specs.Hex.{IsBytes}
use Rattle.n2k_wire.specs.declared.identifier.Id.{Id}

-- the most bytes of a stamp
abbrev pub longest_stamp : ℕ
longest_stamp = 32

-- the most bytes of a message: six in frame 0 of a fast packet and seven in each of 31 more
abbrev pub longest_message : ℕ
longest_message = 223

-- the greatest PGN of a plain line, 24 bits (canboat writes device messages above the 18 bits of the bus)
abbrev pub greatest_pgn : ℕ
greatest_pgn = 16777215

-- the greatest priority, three bits
abbrev pub greatest_priority : ℕ
greatest_priority = 7

-- a message or a frame, as it is read from a line or written to one
pub record PacketParts : Type 0 where
  -- when it was seen, as text
  pub stamp : List ℕ
  -- priority, PGN, source and destination
  pub id : Id
  -- the data bytes in the order of the bus
  pub payload : List ℕ

-- a printable ASCII byte, the space among them
abbrev pub is_printable : ℕ → Bool
is_printable b = nat_le 32 b && nat_le b 126

-- a byte that a stamp may hold: printable, and no comma
abbrev pub is_stamp_byte : ℕ → Bool
is_stamp_byte b = is_printable b && not (b == 44)

-- a byte that a stamp may begin with: `(` begins a candump line and `#` a comment
abbrev pub is_stamp_start : ℕ → Bool
is_stamp_start b = not (b == 40) && not (b == 35)

abbrev pub starts_stamp : List ℕ → Bool
starts_stamp [] = false
starts_stamp (b ∷ bs) = is_stamp_start b

-- a stamp: 1 to 32 stamp bytes
abbrev pub is_stamp : List ℕ → Bool
is_stamp text = starts_stamp text && nat_le (length text) longest_stamp && list_all is_stamp_byte text

-- the parts make a packet
pub record IsPacket (stamp : List ℕ) (id : Id) (payload : List ℕ) : Type 0 where
  pub stamp_ok : IsTrue (is_stamp stamp)
  pub prio_ok : id.prio ≤ greatest_priority
  pub pgn_ok : id.pgn ≤ greatest_pgn
  pub payload_ok : length payload ≤ longest_message

-- Parts that a packet can have: they make one, its addresses are of eight bits, and its data are bytes. The types of
-- the code say the last two, but a law over parts that needs them takes this as its premise.
pub record IsPacketParts (p : PacketParts) : Type 0 where
  pub packet_ok : IsPacket p.stamp p.id p.payload
  pub src_ok : p.id.src ≤ 255
  pub dst_ok : p.id.dst ≤ 255
  pub bytes_ok : IsBytes p.payload
