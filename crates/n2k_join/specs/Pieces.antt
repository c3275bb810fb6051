-- The frames in which messages are sent: a fast packet's pieces, and the sequences that number a stream's messages.
use Rattle.std.specs.Prelude.{ℕ, ◌+◌, ◌*◌, ◌%◌, Bool, true, false, ◌&&◌, ◌==◌, if◌then◌else◌, List, [], ◌∷◌, ◌++◌}
use Rattle.std.specs.Prelude.{length, map, flat_map, count_by, slice_index_or, Option, Some, None}
use Rattle.std.specs.List.{range_with_len}
use Rattle.n2k_join.specs.Frames.{most_frames, frame_bytes, filler, most_sequences}
use Rattle.n2k_join.specs.Groups.{last_number}
use Rattle.n2k_wire.specs.declared.identifier.Id.{Id}
use Rattle.n2k_wire.specs.Packet.{PacketParts}
use Rattle.n2k_table.specs.declared.definition.Kind.{Kind}
use Rattle.n2k_table.specs.declared.definition.Kind.TheVariants.{Single, Fast}
pub use Rattle.n2k_join.specs.declared.stream.Stream.{Stream}

-- The byte at a place of the stream that the frames of a fast packet carry: the length of the data, the data, then FF
-- without end.
abbrev pub sent_byte : List ℕ → ℕ → ℕ
sent_byte payload place = slice_index_or (length payload ∷ payload) place filler

-- the seven bytes that frame n carries
unfoldable pub piece_bytes : List ℕ → ℕ → List ℕ
piece_bytes payload n = map (sent_byte payload) (range_with_len (frame_bytes * n) frame_bytes)

-- Frame n of a message: its first byte holds the sequence in its upper three bits and the number in its lower five,
-- and the stamp and the identifier are the message's.
abbrev pub piece : PacketParts → ℕ → ℕ → PacketParts
piece m sequence n =
    record { stamp = m.stamp; id = m.id; payload = (most_frames * sequence + n) ∷ piece_bytes m.payload n }

-- the number of a message's last frame
abbrev pub last_piece : PacketParts → ℕ
last_piece m = last_number (length m.payload)

-- pieces: the frames of a message whose PGN is of this kind, none if the PGN is unknown
unfoldable pub pieces_as : Option Kind → PacketParts → ℕ → List PacketParts
pieces_as None m sequence = []
pieces_as (Some Single) m sequence = m ∷ []
pieces_as (Some Fast) m sequence = map (piece m sequence) (range_with_len 0 (last_piece m + 1))

abbrev pub pieces_by : (ℕ → Option Kind) → PacketParts → ℕ → List PacketParts
pieces_by kind m sequence = pieces_as (kind m.id.pgn) m sequence

-- the stream of an identifier
abbrev pub stream_of : Id → Stream
stream_of id = record { src = id.src; pgn = id.pgn; dst = id.dst }

unfoldable pub same_stream : Stream → Stream → Bool
same_stream a b = (a.src == b.src) && ((a.pgn == b.pgn) && (a.dst == b.dst))

-- a message with the sequence under which it is sent
pub record Sending : Type 0 where
  pub sequence : ℕ
  pub message : PacketParts

-- the sequence of a message after others: the number of earlier messages of its stream, modulo the number of sequences
abbrev pub sequence_after : List PacketParts → PacketParts → ℕ
sequence_after earlier m =
    count_by (λ (e : PacketParts). same_stream (stream_of e.id) (stream_of m.id)) earlier % most_sequences

abbrev pub sendings_after : List PacketParts → List PacketParts → List Sending
sendings_after earlier [] = []
sendings_after earlier (m ∷ ms) =
    record { sequence = sequence_after earlier m; message = m } ∷ sendings_after (earlier ++ m ∷ []) ms

-- each message of a list with its sequence
abbrev pub sendings : List PacketParts → List Sending
sendings ms = sendings_after [] ms

-- the frames of a sending
abbrev pub frames_of_sending : (ℕ → Option Kind) → Sending → List PacketParts
frames_of_sending kind x = pieces_by kind x.message x.sequence

-- the frames in which a list of messages is sent
abbrev pub written : (ℕ → Option Kind) → List PacketParts → List PacketParts
written kind ms = flat_map (frames_of_sending kind) (sendings ms)

-- A splitter holds the sequence that each stream's next message gets.
abbrev pub Sequences : Type 0
Sequences = Stream → ℕ

-- before the first message
abbrev pub first_sequences : Sequences
first_sequences stream = 0

-- the PGN of this kind is sent in fast packets
abbrev pub is_fast : Option Kind → Bool
is_fast (Some Fast) = true
is_fast (Some Single) = false
is_fast None = false

-- after a message of the stream: its next sequence, if the PGN is sent as fast packets
unfoldable pub raised : (ℕ → Option Kind) → Sequences → Stream → Sequences
raised kind held stream other =
    if is_fast (kind stream.pgn) && same_stream stream other then (held other + 1) % most_sequences else held other

-- the frames that a splitter with these sequences makes of messages
unfoldable pub split_from : (ℕ → Option Kind) → Sequences → List PacketParts → List PacketParts
split_from kind held [] = []
split_from kind held (m ∷ ms) =
    pieces_by kind m (held (stream_of m.id)) ++ split_from kind (raised kind held (stream_of m.id)) ms

-- the frames that a new splitter makes of messages
abbrev pub split_all : (ℕ → Option Kind) → List PacketParts → List PacketParts
split_all kind ms = split_from kind first_sequences ms
