-- The frames of a log that belong to fast packets, as canboat and NMEA 2000 pack them: the first data byte of a frame
-- is its header, the sequence in the upper three bits and the frame's number in the lower five. Frame 0 has the total
-- of the message's bytes in the byte after the header.
use Rattle.std.specs.Prelude.{ℕ, ◌+◌, ◌/◌, ◌%◌, ◌==◌, nat_le, slice_index_or, Bool, false, not, ◌&&◌, ◌||◌}
use Rattle.std.specs.Prelude.{if◌then◌else◌, List, [], ◌∷◌, drop, map, filter, find, Option, Some, None}
use Rattle.std.specs.List.{range_with_len, cons_option}
use Rattle.n2k_wire.specs.declared.identifier.Id.{Id}
use Rattle.n2k_wire.specs.declared.entry.Entry.{Entry}
use Rattle.n2k_wire.specs.declared.entry.Entry.TheVariants as entries
use Rattle.n2k_wire.specs.Packet.{PacketParts, longest_message}
use Rattle.n2k_table.specs.declared.definition.Kind.{Kind}
use Rattle.n2k_table.specs.declared.definition.Kind.TheVariants.{Single, Fast}

-- the most frames of a group: their numbers have five bits
abbrev pub most_frames : ℕ
most_frames = 32

-- the most messages of one sender, destination and PGN that are under way at once: their sequences have three bits
abbrev pub most_sequences : ℕ
most_sequences = 8

-- the data bytes of a frame after its header
abbrev pub frame_bytes : ℕ
frame_bytes = 7

-- the byte that fills a frame up
abbrev pub filler : ℕ
filler = 255

-- frames of one key make one message: who sent it to whom, its PGN, and its sequence
pub record Key : Type 0 where
  pub src : ℕ
  pub dst : ℕ
  pub pgn : ℕ
  pub sequence : ℕ

-- two keys are the same
unfoldable pub same_key : Key → Key → Bool
same_key a b = (a.src == b.src) && ((a.dst == b.dst) && ((a.pgn == b.pgn) && (a.sequence == b.sequence)))

-- a frame of a fast packet: its line, its key and number, its seven bytes, and its line's stamp and identifier
pub record Frame : Type 0 where
  pub line : ℕ
  pub key : Key
  pub number : ℕ
  pub bytes : List ℕ
  pub stamp : List ℕ
  pub id : Id

-- the seven bytes after a header, filled up
abbrev pub seven_bytes : List ℕ → List ℕ
seven_bytes rest = map (λ j. slice_index_or rest j filler) (range_with_len 0 frame_bytes)

-- there is a total, and it isn't too large
abbrev pub has_total : List ℕ → Bool
has_total [] = false
has_total (total ∷ rest) = nat_le total longest_message

-- The data can be a frame of a fast packet: there is a header and, if its number is 0, a total that is not too large.
abbrev pub is_fast_payload : List ℕ → Bool
is_fast_payload [] = false
is_fast_payload (header ∷ rest) = not (header % most_frames == 0) || has_total rest

-- the frame at that line with these parts and this header
abbrev pub frame_with : ℕ → PacketParts → ℕ → List ℕ → Frame
frame_with line packet header rest = record {
  line = line;
  key = record { src = packet.id.src; dst = packet.id.dst; pgn = packet.id.pgn; sequence = header / most_frames };
  number = header % most_frames;
  bytes = seven_bytes rest;
  stamp = packet.stamp;
  id = packet.id;
}

-- the frame in a packet of a fast PGN at that line, or None if its data are not a frame's
unfoldable pub fast_frame : ℕ → PacketParts → Option Frame
fast_frame line packet =
    if is_fast_payload packet.payload
    then Some (frame_with line packet (slice_index_or packet.payload 0 0) (drop 1 packet.payload))
    else None

-- the frame of a packet, by the kind of its PGN
abbrev pub frame_by : Option Kind → ℕ → PacketParts → Option Frame
frame_by None line packet = None
frame_by (Some Single) line packet = None
frame_by (Some Fast) line packet = fast_frame line packet

-- the frame that the entry of a line gives
abbrev pub frame_in : (ℕ → Option Kind) → ℕ → Entry → Option Frame
frame_in kind line (entries.Frame packet) = frame_by (kind packet.id.pgn) line packet
frame_in kind line _ = None

-- the frames of entries; the first entry is line `first`
abbrev pub frames_from : (ℕ → Option Kind) → ℕ → List Entry → List Frame
frames_from kind first [] = []
frames_from kind first (e ∷ es) = cons_option (frame_in kind first e) (frames_from kind (first + 1) es)

-- the frames of a log, in the order of its lines, which are counted from 1
abbrev pub frames : (ℕ → Option Kind) → List Entry → List Frame
frames kind es = frames_from kind 1 es

-- the frames of a key
abbrev pub of_key : Key → List Frame → List Frame
of_key key fs = filter (λ (f : Frame). same_key key f.key) fs

-- the frame at a line
abbrev pub frame_at : ℕ → List Frame → Option Frame
frame_at line fs = find (λ (f : Frame). f.line == line) fs
