-- How the frames of one key fall into groups, and what a group's message contains. A group ends if it is complete, or
-- if the next frame can't join it. Whether a frame can't is a test (`EndTest`), an argument of each definition that
-- cuts. By a window, a frame can't join if the group has its number, if the group's window has ended or, in order, if
-- its number is not greater than each number in the group.
use Rattle.std.specs.Prelude.{◌≡◌, ◌<◌, ℕ, ◌+◌, length, ◌/◌, ◌==◌, nat_le, nat_lt, slice_index_or, Bool, true, false}
use Rattle.std.specs.Prelude.{not, ◌&&◌, ◌||◌, if◌then◌else◌, List, [], ◌∷◌, ◌++◌, take, drop, flat_map, Option, Some}
use Rattle.std.specs.Prelude.{None, unwrap_or, option_and_then, is_some}
use Rattle.std.specs.List.{range_with_len, list_all, last_or}
use Rattle.n2k_join.specs.Frames.{Key, Frame, frame_bytes, of_key}
use Rattle.n2k_join.specs.Window.{Window}

-- the bytes that frames carry under a number
abbrev pub carried : List Frame → ℕ → Option (List ℕ)
carried [] number = None
carried (f ∷ fs) number = if f.number == number then Some f.bytes else carried fs number

-- a frame of that number is among them
abbrev pub has_number : ℕ → List Frame → Bool
has_number number fs = is_some (carried fs number)

-- some number comes twice
abbrev pub has_twice : List Frame → Bool
has_twice [] = false
has_twice (f ∷ fs) = has_number f.number fs || has_twice fs

-- how many bytes the message has: the first byte that frame 0 carries
abbrev pub total_by : Option (List ℕ) → ℕ
total_by bytes = slice_index_or (unwrap_or bytes []) 0 0

abbrev pub total : List Frame → ℕ
total group = total_by (carried group 0)

-- the number of a message's last frame
abbrev pub last_number : ℕ → ℕ
last_number total = total / frame_bytes

-- each number from 0 to `last` is there
abbrev pub has_all : ℕ → List Frame → Bool
has_all last group = list_all (λ n. has_number n group) (range_with_len 0 (last + 1))

-- no number is past `last`
abbrev pub is_within : ℕ → List Frame → Bool
is_within last group = list_all (λ (f : Frame). nat_le f.number last) group

-- A group is complete: no number is repeated, 0 is among them, and they are exactly the numbers that the total needs.
unfoldable pub complete : List Frame → Bool
complete group =
    not (has_twice group) && (has_number 0 group
    && (has_all (last_number (total group)) group && is_within (last_number (total group)) group))

-- a test whether a group that isn't complete ends before a frame
abbrev pub EndTest : Type 0
EndTest = List Frame → Frame → Bool

-- the line of a group's first frame, and of its last
abbrev pub first : List Frame → ℕ
first [] = 0
first (f ∷ fs) = f.line

abbrev pub last_line : List Frame → ℕ
last_line [] = 0
last_line (f ∷ []) = f.line
last_line (f ∷ g ∷ fs) = last_line (g ∷ fs)

-- the frame's number is in it
abbrev pub repeats : EndTest
repeats group f = has_number f.number group

-- a repeated number ends a group
pub record EndsRepeats (ends : EndTest) : Type 0 where
  pub repeated : (group : List Frame) (f : Frame) → repeats group f ≡ true → ends group f ≡ true

-- some frame's number is this one, or above it
abbrev pub has_from : ℕ → List Frame → Bool
has_from number [] = false
has_from number (f ∷ fs) = nat_le number f.number || has_from number fs

-- The frame's number is not greater than each number in the group. The frames of an open group in a state all have its
-- first line, so they do not end each other.
abbrev pub falls_back : EndTest
falls_back group f = nat_lt (first group) f.line && has_from f.number group

-- the group has no place for the frame: its number is in it, or, in order, it falls back
abbrev pub misfits : Window → EndTest
misfits window group f = repeats group f || (window.in_order && falls_back group f)

-- the frame comes after the group's window, which has so many lines from its first
abbrev pub is_late : Window → EndTest
is_late window group f = nat_le (first group + window.lines) f.line

-- the test that ends an incomplete group, by the window
abbrev pub within : Window → EndTest
within window group f = misfits window group f || is_late window group f

-- a group ends before a frame
abbrev pub closes : EndTest → List Frame → Frame → Bool
closes ends group f = complete group || ends group f

-- the groups of frames of one key; the first group begins with `group`
abbrev pub cut_from : EndTest → List Frame → List Frame → List (List Frame)
cut_from ends group [] = group ∷ []
cut_from ends group (f ∷ fs) =
    if closes ends group f then group ∷ cut_from ends (f ∷ []) fs else cut_from ends (group ++ f ∷ []) fs

-- cut: the groups of frames of one key, in order
unfoldable pub cut : EndTest → List Frame → List (List Frame)
cut ends [] = []
cut ends (f ∷ fs) = cut_from ends (f ∷ []) fs

-- A prefix of frames is a group that has ended: it is complete, or no frame follows, or it ends before the next frame.
abbrev pub HasEnded : EndTest → List Frame → List Frame → Type 0
HasEnded ends group [] = Unit {0}
HasEnded ends group (f ∷ rest) = closes ends group f ≡ true

-- The first group of frames: the shortest nonempty prefix that has ended.
pub record IsFirstGroup (ends : EndTest) (fs group rest : List Frame) : Type 0 where
  pub joined : fs ≡ group ++ rest
  pub nonempty : 0 < length group
  pub ended : HasEnded ends group rest
  pub shortest : (f g : Frame) (prefix back : List Frame) → group ≡ (f ∷ prefix) ++ (g ∷ back)
      → closes ends (f ∷ prefix) g ≡ false

-- a group that isn't complete
abbrev pub incomplete : List Frame → Option (List Frame)
incomplete group = if complete group then None else Some group

-- The open group of a key: the last one, if it is incomplete. Its window may have ended since.
abbrev pub open_of : EndTest → Key → List Frame → Option (List Frame)
open_of ends key fs = option_and_then incomplete (last_or None (cut ends (of_key key fs)))

-- the bytes of frame `number` of a group
abbrev pub bytes_at : List Frame → ℕ → List ℕ
bytes_at group number = unwrap_or (carried group number) []

-- The data of a complete group: the bytes of its frames, by rising number, without the total, and cut to the total.
unfoldable pub data_of : List Frame → List ℕ
data_of group =
    take (total group) (drop 1 (flat_map (bytes_at group) (range_with_len 0 (last_number (total group) + 1))))
