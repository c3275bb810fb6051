-- The code's data as the definitions see them.
use Rattle.std.specs.Prelude.{ℕ, ◌≡◌, ◌<◌, ◌≤◌, Bool, List, [], ◌∷◌, ◌++◌, length, if◌then◌else◌, Option, Some, None}
use Rattle.std.specs.Prelude.{filter_map, find, option_to_list}
use Rattle.n2k_join.specs.declared.step.Broken.{Broken}
use Rattle.n2k_wire.specs.Packet.{PacketParts}
use Rattle.n2k_wire.specs.declared.entry.BadCause.{BadCause}
use Rattle.n2k_join.specs.declared.piece.FrameKey.{FrameKey}
use Rattle.n2k_join.specs.declared.piece.StoredPiece.{StoredPiece}
use Rattle.n2k_join.specs.declared.piece.FastFrame.{FastFrame}
use Rattle.n2k_join.specs.Frames.{Key, same_key, Frame, most_frames, most_sequences}
use Rattle.n2k_join.specs.Groups.{has_number, has_from, complete}
use Rattle.n2k_join.specs.Open.{Piece, Group, pieces_of, group_of}
use Rattle.n2k_join.specs.Messages.{message_of, broken_of}
use Rattle.n2k_join.specs.Pieces.{Stream}
use Rattle.n2k_join.specs.Splitter.{sequences}
use Rattle.n2k_join.specs.State.{Given, held_of}

abbrev pub key_of : FrameKey → Key
key_of key = record { src = key.src; dst = key.dst; pgn = key.pgn; sequence = key.sequence }

abbrev pub piece_of : StoredPiece → Piece
piece_of piece = record { number = piece.number; bytes = piece.bytes }

-- the frame of a packet at a line
abbrev pub frame_of : ℕ → PacketParts → FastFrame → Frame
frame_of line packet frame = record {
  line = line;
  key = key_of frame.key;
  number = frame.piece.number;
  bytes = frame.piece.bytes;
  stamp = packet.stamp;
  id = packet.id;
}

-- each sequence that a splitter holds is of three bits
abbrev pub AreSequences : List (Stream × ℕ) → Type 0
AreSequences held = (stream : Stream) → sequences held stream < most_sequences

-- the properties of `Frames`: a sequence of three bits, and one to 32 frames
pub record AreFrames (sequence count : ℕ) (frames : List PacketParts) : Type 0 where
  pub small : sequence < most_sequences
  pub counted : count ≡ length frames
  pub some : 0 < count
  pub few : count ≤ most_frames

-- ---- a frame taken into the open groups, as the code does it

-- an open group with a frame more
abbrev pub with_frame : Group → Frame → Group
with_frame o x = record { first = o.first; key = o.key; pieces = pieces_of (held_of o ++ x ∷ []) }

-- the message of frames, if the last completes them
abbrev pub message_if : Frame → List Frame → Option PacketParts
message_if x group = if complete group then Some (message_of x group) else None

-- A group has no place for a number: the group has it or, in order, the number is not greater than each of the group's.
abbrev pub rejects : Bool → ℕ → Group → Bool
rejects in_order number o = if in_order then has_from number (held_of o) else has_number number (held_of o)

-- the open group that remains of a group of the frame's key
abbrev pub joined : Bool → Frame → Group → Option Group
joined in_order x o =
    if rejects in_order x.number o then None
    else (if complete (held_of o ++ x ∷ []) then None else Some (with_frame o x))

-- the open group that remains of a group
abbrev pub taken : Bool → Frame → Group → Option Group
taken in_order x o = if same_key x.key o.key then joined in_order x o else Some o

-- the group that a frame opens, if the frame doesn't complete it
abbrev pub started : Frame → Option Group
started x = if complete (x ∷ []) then None else Some (group_of x.key (x ∷ []))

-- the open group of a key
abbrev pub of_the_key : Key → List Group → Option Group
of_the_key key groups = find (λ (o : Group). same_key key o.key) groups

-- the group that a frame opens, given the open group of its key
abbrev pub opened : Bool → Frame → Option Group → Option Group
opened in_order x None = started x
opened in_order x (Some o) = if rejects in_order x.number o then started x else None

-- the open groups after a frame
unfoldable pub groups_after : Bool → List Group → Frame → List Group
groups_after in_order groups x =
    filter_map (taken in_order x) groups ++ option_to_list (opened in_order x (of_the_key x.key groups))

-- the message that a frame completes, given the open group of its key
abbrev pub gained : Bool → Frame → Option Group → Option PacketParts
gained in_order x None = message_if x (x ∷ [])
gained in_order x (Some o) =
    if rejects in_order x.number o then message_if x (x ∷ []) else message_if x (held_of o ++ x ∷ [])

-- the group that a frame breaks
abbrev pub lost : Bool → Frame → Option Group → Option Broken
lost in_order x None = None
lost in_order x (Some o) = if rejects in_order x.number o then Some (broken_of x.key (held_of o)) else None

-- The result of a line, by its frame. Without a frame it is a message alone, or a cause.
abbrev pub gives_by : Bool → Option PacketParts → Option BadCause → List Group → Option Frame → Given
gives_by in_order alone cause groups None = record { message = alone; cause = cause; broken = [] }
gives_by in_order alone cause groups (Some x) =
    record {
      message = gained in_order x (of_the_key x.key groups);
      cause = None;
      broken = option_to_list (lost in_order x (of_the_key x.key groups));
    }

-- the open groups that it leaves
abbrev pub leaves_by : Bool → List Group → Option Frame → List Group
leaves_by in_order groups None = groups
leaves_by in_order groups (Some x) = groups_after in_order groups x
