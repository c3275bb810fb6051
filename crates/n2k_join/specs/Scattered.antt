-- Logs in which the frames of messages are mixed: each message's frames in any order, and messages of different keys
-- between one another.
use Rattle.std.specs.Prelude.{◌≡◌, ℕ, ◌+◌, ◌≤◌, ◌<◌, false, true, List, map, length, filter, flat_map, Option, Some}
use Rattle.std.specs.Prelude.{None}
use Rattle.std.specs.List.{All, AllZip, range_with_len}
use Rattle.n2k_wire.specs.declared.entry.Entry.{Entry}
use Rattle.n2k_wire.specs.declared.entry.Entry.TheVariants as entries
use Rattle.n2k_wire.specs.Entry.{IsEntry}
use Rattle.n2k_wire.specs.Packet.{PacketParts}
use Rattle.n2k_table.specs.declared.definition.Kind.{Kind}
use Rattle.n2k_table.specs.declared.definition.Kind.TheVariants.{Fast}
use Rattle.n2k_join.specs.Frames.{Key, same_key, Frame, fast_frame, frames, of_key}
use Rattle.n2k_join.specs.Groups.{has_twice, first}
use Rattle.n2k_join.specs.Messages.{alone}
use Rattle.n2k_join.specs.Pieces.{piece, last_piece, Sending, sendings, written}
use Rattle.n2k_join.specs.Window.{Window}

-- the key of a sending's frames
abbrev pub key_of_sending : Sending → Key
key_of_sending x =
    record { src = x.message.id.src; dst = x.message.id.dst; pgn = x.message.id.pgn; sequence = x.sequence }

-- the frame is the sending's piece of its number, at whatever line
pub record IsPieceOf (x : Sending) (f : Frame) : Type 0 where
  pub in_range : f.number ≤ last_piece x.message
  pub is_piece : fast_frame f.line (piece x.message x.sequence f.number) ≡ Some f

-- the frames are different pieces of the sending, in any order
pub record ArePieces (x : Sending) (fs : List Frame) : Type 0 where
  pub each : All (IsPieceOf x) fs
  pub apart : has_twice fs ≡ false

-- the frames are the sending's pieces, all of them, in any order
pub record IsStretchOf (x : Sending) (fs : List Frame) : Type 0 where
  pub pieces : ArePieces x fs
  pub whole : length fs ≡ last_piece x.message + 1

-- A stretch whose frames all come before its window ends; in order, by rising number.
pub record IsStretchWithin (window : Window) (x : Sending) (fs : List Frame) : Type 0 where
  pub stretch : IsStretchOf x fs
  pub in_time : All (λ (f : Frame). f.line < first fs + window.lines) fs
  pub ordered : window.in_order ≡ true → map (λ (f : Frame). f.number) fs ≡ range_with_len 0 (last_piece x.message + 1)

-- the frames of all groups, in order
abbrev pub all_frames : List (List Frame) → List Frame
all_frames groups = flat_map (λ (group : List Frame). group) groups

-- the frames fall into one stretch a sending, in the order of the sendings
pub record FallInto (window : Window) (xs : List Sending) (fs : List Frame) : Type 0 where
  pub stretches : List (List Frame)
  pub one_after_the_other : fs ≡ all_frames stretches
  pub each : AllZip (IsStretchWithin window) xs stretches

-- the messages of a list whose frames have the key, each with its sequence
abbrev pub sendings_of : Key → List PacketParts → List Sending
sendings_of key ms = filter (λ (x : Sending). same_key key (key_of_sending x)) (sendings ms)

-- The frames of the messages are scattered over the log: the messages are fast packets, and the frames of each key fall
-- into the stretches of that key's messages, in their order, each within the window. Other entries may come between.
pub record IsScattered (window : Window) (kind : ℕ → Option Kind) (ms : List PacketParts) (es : List Entry)
    : Type 0 where
  pub fast : All (λ (m : PacketParts). kind m.id.pgn ≡ Some Fast) ms
  pub falls : (key : Key) → FallInto window (sendings_of key ms) (of_key key (frames kind es))

-- no entry gives a message alone
abbrev pub IsMute : (ℕ → Option Kind) → List Entry → Type 0
IsMute kind es = All (λ (e : Entry). alone kind e ≡ None) es

-- packets as the frames of a log, a line each
abbrev pub as_entries : List PacketParts → List Entry
as_entries packets = map (λ p. entries.Frame p) packets

-- The frames, written one a line in their order, make a scattered log, and it gives no message alone.
pub record WrittenLog (window : Window) (kind : ℕ → Option Kind) (ms : List PacketParts) : Type 0 where
  pub entries : All IsEntry (as_entries (written kind ms))
  pub mute : IsMute kind (as_entries (written kind ms))
  pub scattered : IsScattered window kind ms (as_entries (written kind ms))
