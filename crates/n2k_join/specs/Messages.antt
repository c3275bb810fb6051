-- The results of the lines of a log: messages, bad lines and broken groups. `kind` is how a PGN is sent, by the table.
use Rattle.std.specs.Prelude.{ℕ, zero, suc, ◌+◌, ◌==◌, min, Bool, false, not, ◌&&◌, if◌then◌else◌, List, [], ◌∷◌, find}
use Rattle.std.specs.Prelude.{filter_map, length, sum_by, count_by, slice_get, Option, Some, None, option_map}
use Rattle.std.specs.Prelude.{option_and_then, is_some}
use Rattle.std.specs.Option.{option_or}
use Rattle.std.specs.List.{range_with_len}
use Rattle.n2k_wire.specs.declared.entry.BadCause.{BadCause}
use Rattle.n2k_wire.specs.declared.entry.BadCause.TheVariants as causes
use Rattle.n2k_wire.specs.declared.entry.Entry.{Entry}
use Rattle.n2k_wire.specs.declared.entry.Entry.TheVariants as entries
use Rattle.n2k_wire.specs.Packet.{PacketParts}
use Rattle.n2k_table.specs.declared.definition.Kind.{Kind}
use Rattle.n2k_table.specs.declared.definition.Kind.TheVariants.{Single, Fast}
use Rattle.n2k_join.specs.declared.step.Broken.{Broken}
use Rattle.n2k_join.specs.declared.counts.Counts.{Counts}
use Rattle.n2k_join.specs.Frames.{Key, Frame, is_fast_payload, frames, of_key, frame_at}
use Rattle.n2k_join.specs.Groups.{EndTest, within, complete, cut, first, last_line, data_of}
use Rattle.n2k_join.specs.Open.{Group, open_within}
use Rattle.n2k_join.specs.Window.{Window}

-- a message, and the key of the group that gave it
pub record Keyed : Type 0 where
  pub key : Key
  pub message : PacketParts

-- the message of a group that the frame completes: with the stamp and the identifier of that frame's line
abbrev pub message_of : Frame → List Frame → PacketParts
message_of f group = record { stamp = f.stamp; id = f.id; payload = data_of group }

-- the group is complete, and its last frame is that of the line
abbrev pub is_done_at : ℕ → List Frame → Bool
is_done_at line group = complete group && (last_line group == line)

-- the message of the group that the frame completes, among the groups of its key
abbrev pub gathered_by : EndTest → List Frame → Frame → Option Keyed
gathered_by ends fs f =
    option_map (λ group. record { key = f.key; message = message_of f group })
    (find (is_done_at f.line) (cut ends (of_key f.key fs)))

-- the message of the group that the frame at a line completes
unfoldable pub gathered : EndTest → List Frame → ℕ → Option Keyed
gathered ends fs line = option_and_then (gathered_by ends fs) (frame_at line fs)

-- the entry of a line
abbrev pub entry_at : List Entry → ℕ → Option Entry
entry_at es zero = None
entry_at es (suc i) = slice_get es i

-- the message that a frame gives alone, by its PGN's kind: its packet, if the PGN is sent in single frames
abbrev pub single_by : Option Kind → PacketParts → Option PacketParts
single_by None packet = None
single_by (Some Single) packet = Some packet
single_by (Some Fast) packet = None

-- the message that an entry gives alone: a whole message counts if its PGN is in the table, of either kind
abbrev pub alone : (ℕ → Option Kind) → Entry → Option PacketParts
alone kind (entries.Frame packet) = single_by (kind packet.id.pgn) packet
alone kind (entries.Whole packet) = if is_some (kind packet.id.pgn) then Some packet else None
alone kind _ = None

-- the message of a line: of the group that it completes, or of its entry alone
abbrev pub message_with : EndTest → (ℕ → Option Kind) → List Entry → ℕ → Option PacketParts
message_with ends kind es line =
    option_or (option_map (λ (m : Keyed). m.message) (gathered ends (frames kind es) line))
    (option_and_then (alone kind) (entry_at es line))

abbrev pub message : Window → (ℕ → Option Kind) → List Entry → ℕ → Option PacketParts
message window = message_with (within window)

-- why the line of a frame is bad, by its PGN's kind: under a fast PGN, if its data are not a frame's
abbrev pub fast_cause : Option Kind → PacketParts → Option BadCause
fast_cause None packet = None
fast_cause (Some Single) packet = None
fast_cause (Some Fast) packet = if is_fast_payload packet.payload then None else Some causes.Fast

-- why the line of an entry is bad
abbrev pub cause_in : (ℕ → Option Kind) → Entry → Option BadCause
cause_in kind (entries.Bad cause) = Some cause
cause_in kind (entries.Frame packet) = fast_cause (kind packet.id.pgn) packet
cause_in kind _ = None

-- the report of a broken group: its key, and the line that opened it
abbrev pub broken_from : Key → ℕ → Broken
broken_from key line = record { pgn = key.pgn; src = key.src; dst = key.dst; seq = key.sequence; first = line }

-- the report of a group, by its key and frames
abbrev pub broken_of : Key → List Frame → Broken
broken_of key group = broken_from key (first group)

-- the report of a state's group
abbrev pub as_broken : Group → Broken
as_broken group = broken_from group.key group.first

-- The line at which an incomplete group is broken, given the later groups of its key: the line at which its window
-- ends, or the first line of the next group if that is earlier.
abbrev pub broken_line : Window → List Frame → List (List Frame) → ℕ
broken_line window group [] = first group + window.lines
broken_line window group (next ∷ groups) = min (first group + window.lines) (first next)

-- among the groups of a key, the group that begins at line `begun`, if it is broken at line `line`
abbrev pub broken_among : Window → ℕ → ℕ → List (List Frame) → Option (List Frame)
broken_among window begun line [] = None
broken_among window begun line (group ∷ groups) =
    if not (complete group) && ((first group == begun) && (broken_line window group groups == line)) then Some group
    else broken_among window begun line groups

abbrev pub broken_by : Window → List Frame → ℕ → Frame → Option Broken
broken_by window fs line f =
    option_map (broken_of f.key) (broken_among window f.line line (cut (within window) (of_key f.key fs)))

-- the group that the frame at line `begun` opened, if it is broken at line `line`
abbrev pub broken_begun : Window → List Frame → ℕ → ℕ → Option Broken
broken_begun window fs line begun = option_and_then (broken_by window fs line) (frame_at begun fs)

-- the groups that are broken at a line of the log, by the lines that opened them
unfoldable pub broken_with : Window → List Frame → ℕ → List Broken
broken_with window fs line = filter_map (broken_begun window fs line) (range_with_len 1 line)

abbrev pub broken : Window → (ℕ → Option Kind) → List Entry → ℕ → List Broken
broken window kind es line = broken_with window (frames kind es) line

-- the PGN of an entry isn't in the table
abbrev pub is_unknown : (ℕ → Option Kind) → Entry → Bool
is_unknown kind (entries.Frame packet) = not (is_some (kind packet.id.pgn))
is_unknown kind (entries.Whole packet) = not (is_some (kind packet.id.pgn))
is_unknown kind _ = false

-- the numbers of the lines
abbrev pub numbers : List Entry → List ℕ
numbers es = range_with_len 1 (length es)

-- lines, including skipped ones; lines that give a message; bad lines; lines of an unknown PGN; broken groups; and
-- `held`, the groups open at the end
abbrev pub counts : Window → (ℕ → Option Kind) → List Entry → Counts
counts window kind es = record {
  lines = length es;
  messages = count_by (λ line. is_some (message window kind es line)) (numbers es);
  bad = count_by (λ e. is_some (cause_in kind e)) es;
  unknown = count_by (is_unknown kind) es;
  broken = sum_by (λ line. length (broken window kind es line)) (numbers es);
  held = length (open_within window (length es) (frames kind es));
}
