-- How messages arrive whose frames are scattered over a log.
use Rattle.std.specs.Prelude.{◌≡◌, ℕ, ◌+◌, ◌<◌, min, true, false, List, [], ◌++◌, map, length, Option, Some, IfSome}
use Rattle.std.specs.Prelude.{Contains}
use Rattle.std.specs.List.{All, AllZip, range_with_len}
use Rattle.n2k_wire.specs.declared.entry.Entry.{Entry}
use Rattle.n2k_wire.specs.Packet.{PacketParts, longest_message}
use Rattle.n2k_table.specs.declared.definition.Kind.{Kind}
use Rattle.n2k_join.specs.Frames.{Key, Frame, most_frames, frames, of_key}
use Rattle.n2k_join.specs.Groups.{has_number, within, complete, cut, first, last_line, last_number, open_of, data_of}
use Rattle.n2k_join.specs.Messages.{message, broken_of, broken}
use Rattle.n2k_join.specs.Open.{open_within}
use Rattle.n2k_join.specs.Pieces.{last_piece, Sending}
use Rattle.n2k_join.specs.Scattered.{key_of_sending, IsPieceOf, ArePieces, IsStretchOf, sendings_of}
use Rattle.n2k_join.specs.Window.{Window}

-- The pieces of a sending make one group, in any order: all of them are complete and carry the message's data, and
-- fewer of them are not complete.
pub record PiecesJoin (x : Sending) : Type 0 where
  pub complete_together : (fs : List Frame) → IsStretchOf x fs → complete fs ≡ true
  pub carry_data : (fs : List Frame) → IsStretchOf x fs → data_of fs ≡ x.message.payload
  pub no_part : (fs : List Frame) → ArePieces x fs → length fs < last_piece x.message + 1 → complete fs ≡ false

-- The longest message has a frame of each number, and one more byte would need another number.
pub record FillsAllFrames : Type 0 where
  pub all : last_number longest_message + 1 ≡ most_frames
  pub no_more : last_number (longest_message + 1) ≡ most_frames

-- The group brings the message: its frames are the message's pieces, all of them; it is complete and has the message's
-- data; and the line of its last frame gives the message, stamp, identifier and data.
pub record Brings (window : Window) (kind : ℕ → Option Kind) (es : List Entry) (x : Sending) (group : List Frame)
    : Type 0 where
  pub stretch : IsStretchOf x group
  pub whole : complete group ≡ true
  pub carries : data_of group ≡ x.message.payload
  pub given : message window kind es (last_line group) ≡ Some x.message

-- Each message arrives whole: the groups of a key bring that key's messages, one each and in their order; no group is
-- broken at any line, and none stays open.
pub record ArriveWhole (window : Window) (kind : ℕ → Option Kind) (ms : List PacketParts) (es : List Entry)
    : Type 0 where
  pub brought : (key : Key)
      → AllZip (Brings window kind es) (sendings_of key ms) (cut (within window) (of_key key (frames kind es)))
  pub none_broken : (line : ℕ) → broken window kind es line ≡ []
  pub none_open : open_within window (length es) (frames kind es) ≡ []

-- After the entries `prefix` of a log, the next frames of a sending's key are its pieces, by rising number: `group`,
-- within the window. `back` is the rest of the log, `after` the key's later frames.
pub record ComesNext (window : Window) (kind : ℕ → Option Kind) (prefix back : List Entry) (x : Sending)
    (group after : List Frame) : Type 0 where
  pub next : of_key (key_of_sending x) (frames kind (prefix ++ back))
      ≡ of_key (key_of_sending x) (frames kind prefix) ++ (group ++ after)
  pub each : All (IsPieceOf x) group
  pub rising : map (λ (f : Frame). f.number) group ≡ range_with_len 0 (last_piece x.message + 1)
  pub in_time : All (λ (f : Frame). f.line < first group + window.lines) group

-- If the entries `prefix` leave a group of the sending's key open, it has frame 0.
abbrev pub LeavesZero : Window → (ℕ → Option Kind) → List Entry → Sending → Type 0
LeavesZero window kind prefix x =
    IfSome (open_of (within window) (key_of_sending x) (frames kind prefix))
    (λ last. length prefix < first last + window.lines → has_number 0 last ≡ true)

-- heals: the line of the last piece gives the message, and the group left open, if any, is broken at the line of the
-- first piece, or earlier if its window ends earlier.
pub record Heals (window : Window) (kind : ℕ → Option Kind) (prefix back : List Entry) (x : Sending) (group : List Frame)
    : Type 0 where
  pub given : message window kind (prefix ++ back) (last_line group) ≡ Some x.message
  pub breaks : IfSome (open_of (within window) (key_of_sending x) (frames kind prefix))
      (λ left. Contains (broken window kind (prefix ++ back) (min (first left + window.lines) (first group)))
      (broken_of (key_of_sending x) left))
