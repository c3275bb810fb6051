-- The state of a join after a log, and the step that one more entry makes. The step needs no log: it cuts the frames
-- that the state holds, followed by the entry's.
use Rattle.std.specs.Prelude.{◌≡◌, ◌≤◌, ◌<◌, ℕ, ◌+◌, false, true, Bool, List, [], ◌∷◌, ◌++◌, map, reverse, length}
use Rattle.std.specs.Prelude.{flat_map, Option, option_map, option_to_list, is_some, slice_index_or, Some}
use Rattle.std.specs.Option.{option_or}
use Rattle.std.specs.List.{AllByRecursion}
use Rattle.n2k_wire.specs.declared.entry.BadCause.{BadCause}
use Rattle.n2k_wire.specs.declared.entry.Entry.{Entry}
use Rattle.n2k_wire.specs.Packet.{PacketParts, greatest_pgn, longest_message}
use Rattle.n2k_table.specs.declared.definition.Kind.{Kind}
use Rattle.n2k_table.specs.declared.definition.Kind.TheVariants.{Fast}
use Rattle.n2k_join.specs.declared.step.Broken.{Broken}
use Rattle.n2k_join.specs.declared.counts.Counts.{Counts}
use Rattle.n2k_join.specs.Counts.{most_lines}
use Rattle.n2k_join.specs.Frames.{Key, same_key, Frame, most_frames, most_sequences, frame_bytes, frames, frame_in}
use Rattle.n2k_join.specs.Groups.{within, complete}
use Rattle.n2k_join.specs.Open.{ended, waiting, open_within}
pub use Rattle.n2k_join.specs.Open.{Piece, Group}
use Rattle.n2k_join.specs.Messages.{Keyed, gathered, alone, cause_in, as_broken, broken_with, is_unknown, counts}
use Rattle.n2k_join.specs.Window.{Window, IsWindow}

-- the id of the table of the lines, the window, the counts of the lines, and the open groups by rising first line
pub record State : Type 0 where
  pub id : List ℕ
  pub window : Window
  pub counts : Counts
  pub groups : List Group

-- the state after a log, under a window and with the table of this id
abbrev pub state : List ℕ → Window → (ℕ → Option Kind) → List Entry → State
state id window kind es =
    record {
      id = id;
      window = window;
      counts = counts window kind es;
      groups = open_within window (length es) (frames kind es);
    }

-- A piece as a frame. Its line is the group's first; a state holds no stamp, since a message takes that of the line
-- that completes it.
abbrev pub held_frame : Group → Piece → Frame
held_frame group piece = record {
  line = group.first;
  key = group.key;
  number = piece.number;
  bytes = piece.bytes;
  stamp = [];
  id = record { prio = 0; pgn = group.key.pgn; src = group.key.src; dst = group.key.dst };
}

-- The frames of an open group, by falling number: frame 0, which has the total, comes last, so no prefix is complete.
abbrev pub held_of : Group → List Frame
held_of group = map (held_frame group) (reverse group.pieces)

-- held: the frames of the open groups, group by group
abbrev pub held : List Group → List Frame
held groups = flat_map held_of groups

-- the result of a line: a message, the cause of a bad line, the groups that are broken at it
pub record Given : Type 0 where
  pub message : Option PacketParts
  pub cause : Option BadCause
  pub broken : List Broken

-- the line of the next entry
abbrev pub next_line : State → ℕ
next_line s = s.counts.lines + 1

-- the groups whose window has ended by the next line: they are broken there before its frame is taken
abbrev pub overdue : State → List Group
overdue s = ended s.window (next_line s) s.groups

-- the held frames of the groups that wait, followed by the next entry's frame
abbrev pub step_frames : (ℕ → Option Kind) → State → Entry → List Frame
step_frames kind s e = held (waiting s.window (next_line s) s.groups) ++ option_to_list (frame_in kind (next_line s) e)

-- the result of the next entry
unfoldable pub step_given : (ℕ → Option Kind) → State → Entry → Given
step_given kind s e = record {
  message =
      option_or
      (option_map (λ (m : Keyed). m.message) (gathered (within s.window) (step_frames kind s e) (next_line s)))
      (alone kind e);
  cause = cause_in kind e;
  broken = map as_broken (overdue s) ++ broken_with s.window (step_frames kind s e) (next_line s);
}

-- the open groups after the next entry
abbrev pub step_groups : (ℕ → Option Kind) → State → Entry → List Group
step_groups kind s e = open_within s.window (next_line s) (step_frames kind s e)

-- 1 if true, 0 if false
abbrev pub one_if : Bool → ℕ
one_if true = 1
one_if false = 0

-- the counts after one more entry with this result and so many open groups
abbrev pub counts_after : (ℕ → Option Kind) → Counts → Entry → Given → ℕ → Counts
counts_after kind c e given held = record {
  lines = c.lines + 1;
  messages = c.messages + one_if (is_some given.message);
  bad = c.bad + one_if (is_some given.cause);
  unknown = c.unknown + one_if (is_unknown kind e);
  broken = c.broken + length given.broken;
  held = held;
}

-- the state after the next entry
unfoldable pub step_after : (ℕ → Option Kind) → State → Entry → State
step_after kind s e = record {
  id = s.id;
  window = s.window;
  counts = counts_after kind s.counts e (step_given kind s e) (length (step_groups kind s e));
  groups = step_groups kind s e;
}

-- the possible counts of lines: each line gives at most one of a message, a cause and an unknown PGN, and opens at most
-- one group, which is broken or open afterwards
pub record AreCounts (c : Counts) : Type 0 where
  pub lines : c.lines ≤ most_lines
  pub given : c.messages + c.bad + c.unknown ≤ c.lines
  pub broken : c.broken + c.held ≤ c.lines

-- the limits of a key's parts in packets
pub record IsKey (key : Key) : Type 0 where
  pub src : key.src < 256
  pub dst : key.dst < 256
  pub pgn : key.pgn ≤ greatest_pgn
  pub sequence : key.sequence < most_sequences

-- a piece that a frame can carry: seven bytes, and with number 0 a total that isn't too large
pub record IsPiece (piece : Piece) : Type 0 where
  pub seven : length piece.bytes ≡ frame_bytes
  pub are_bytes : AllByRecursion (λ byte. byte < 256) piece.bytes
  pub total : piece.number ≡ 0 → slice_index_or piece.bytes 0 0 ≤ longest_message

-- the limits of a group's parts in frames
pub record HasParts (group : Group) : Type 0 where
  pub key : IsKey group.key
  pub pieces : AllByRecursion IsPiece group.pieces

-- these numbers of the items rise strictly, from `least` on
abbrev pub Rise : {A : Type 0} → (A → ℕ) → ℕ → List A → Type 0
Rise number least [] = Unit {0}
Rise number least (x ∷ xs) = (least ≤ number x) × Rise number (number x + 1) xs

-- a group that can be open: it has pieces, by rising number, and they don't make it complete
pub record IsOpen (group : Group) : Type 0 where
  pub nonempty : 0 < length group.pieces
  pub rise : Rise (λ (p : Piece). p.number) 0 group.pieces
  pub numbers : AllByRecursion (λ (p : Piece). p.number < most_frames) group.pieces
  pub incomplete : complete (held_of group) ≡ false

-- no two of the groups have one key
abbrev pub AreApart : List Group → Type 0
AreApart [] = Unit {0}
AreApart (g ∷ gs) = AllByRecursion (λ (h : Group). same_key g.key h.key ≡ false) gs × AreApart gs

-- groups that can be open after so many lines
pub record AreOpen (lines : ℕ) (groups : List Group) : Type 0 where
  pub each : AllByRecursion IsOpen groups
  pub rise : Rise (λ (g : Group). g.first) 1 groups
  pub begun : AllByRecursion (λ (g : Group). g.first ≤ lines) groups
  pub apart : AreApart groups

-- A state that a join can have, even if no log leads to it. The join's type guarantees the 32 bytes of its id. Its
-- groups need not be of fast PGNs: the next line may be read with another table.
pub record IsState (s : State) : Type 0 where
  pub window : IsWindow s.window.lines
  pub counted : AreCounts s.counts
  pub held : s.counts.held ≡ length s.groups
  pub groups : AreOpen s.counts.lines s.groups
  pub parts : AllByRecursion HasParts s.groups

-- the groups are of PGNs that are sent in fast packets
abbrev pub AreFast : (ℕ → Option Kind) → List Group → Type 0
AreFast kind groups = AllByRecursion (λ (g : Group). kind g.key.pgn ≡ Some Fast) groups

-- No group's window has ended: so it is in the state of a log, and in each state after a line.
abbrev pub AreWaiting : State → Type 0
AreWaiting s = AllByRecursion (λ (g : Group). s.counts.lines < g.first + s.window.lines) s.groups
