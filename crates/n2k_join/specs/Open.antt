-- What is open after a log's frames, and what a state keeps of each open group: its key, the line that opened it, and
-- its frames' bytes by rising number. The order and the stamps of its frames no longer matter.
use Rattle.std.specs.Prelude.{ℕ, ◌+◌, ◌==◌, nat_lt, Bool, not, if◌then◌else◌, List, filter, filter_map, Option, Some}
use Rattle.std.specs.Prelude.{None, option_map, option_and_then}
use Rattle.std.specs.List.{range_with_len}
use Rattle.n2k_join.specs.Frames.{Key, Frame, most_frames, frame_at}
use Rattle.n2k_join.specs.Groups.{EndTest, within, carried, first, open_of}
use Rattle.n2k_join.specs.Window.{Window}

-- a frame's number and its seven bytes
pub record Piece : Type 0 where
  pub number : ℕ
  pub bytes : List ℕ

-- an open group: the line that opened it, its key, and its pieces by rising number
pub record Group : Type 0 where
  pub first : ℕ
  pub key : Key
  pub pieces : List Piece

-- the piece of a number
abbrev pub piece_at : (ℕ → Option (List ℕ)) → ℕ → Option Piece
piece_at carries number = option_map (λ bytes. record { number = number; bytes = bytes }) (carries number)

-- the pieces of frames, by rising number
unfoldable pub pieces_of : List Frame → List Piece
pieces_of fs = filter_map (piece_at (carried fs)) (range_with_len 0 most_frames)

-- the state's form of a group of a key
abbrev pub group_of : Key → List Frame → Group
group_of key fs = record { first = first fs; key = key; pieces = pieces_of fs }

-- the group, if it begins at that line
abbrev pub where_begun : ℕ → Key → List Frame → Option Group
where_begun line key group = if first group == line then Some (group_of key group) else None

-- the group that the frame at a line opened, if it is still open
unfoldable pub begun_at : EndTest → List Frame → ℕ → Option Group
begun_at ends fs line =
    option_and_then (λ (f : Frame). option_and_then (where_begun line f.key) (open_of ends f.key fs)) (frame_at line fs)

-- the last group of each key, if incomplete, after the frames of `lines` lines, by the lines that opened them
unfoldable pub open_groups : EndTest → ℕ → List Frame → List Group
open_groups ends lines fs = filter_map (begun_at ends fs) (range_with_len 1 lines)

-- the group's window ends after this line
abbrev pub is_waiting : Window → ℕ → Group → Bool
is_waiting window line group = nat_lt line (group.first + window.lines)

-- the groups whose window ends after this line
unfoldable pub waiting : Window → ℕ → List Group → List Group
waiting window line groups = filter (is_waiting window line) groups

-- the groups whose window has ended by this line
unfoldable pub ended : Window → ℕ → List Group → List Group
ended window line groups = filter (λ (g : Group). not (is_waiting window line g)) groups

-- the open groups after the frames of `lines` lines whose window has not ended
abbrev pub open_within : Window → ℕ → List Frame → List Group
open_within window lines fs = waiting window lines (open_groups (within window) lines fs)
