-- A complete group, in order: frames by rising number with no other of their key between them. No log shows whether a
-- device sent them consecutively.
use Rattle.std.specs.Prelude.{◌≡◌, ℕ, ◌+◌, true, List, [], ◌∷◌, ◌++◌, map, Option}
use Rattle.std.specs.List.{All, range_with_len}
use Rattle.n2k_wire.specs.declared.entry.Entry.{Entry}
use Rattle.n2k_table.specs.declared.definition.Kind.{Kind}
use Rattle.n2k_join.specs.Frames.{Key, Frame, frames, of_key}
use Rattle.n2k_join.specs.Groups.{within, complete, cut, total, last_number, last_line, data_of}
use Rattle.n2k_join.specs.Messages.{Keyed, message_of}
use Rattle.n2k_join.specs.Window.{Window}

-- The frames are consecutive among the key's frames of a log, and their numbers are 0 to the last, in that order.
pub record AreConsecutive (key : Key) (fs group : List Frame) : Type 0 where
  pub before : List Frame
  pub after : List Frame
  pub together : of_key key fs ≡ before ++ (group ++ after)
  pub in_order : map (λ (f : Frame). f.number) group ≡ range_with_len 0 (last_number (total group) + 1)

-- The frames of each complete group of a key are consecutive.
abbrev pub GroupsConsecutive : Window → (ℕ → Option Kind) → List Entry → Key → Type 0
GroupsConsecutive window kind es key =
    All (λ (group : List Frame). complete group ≡ true → AreConsecutive key (frames kind es) group)
    (cut (within window) (of_key key (frames kind es)))

-- The message of a line has the data of such a group, and the stamp, the priority and the identifier of its last frame,
-- which is at that line.
pub record ComesOfConsecutive (kind : ℕ → Option Kind) (es : List Entry) (line : ℕ) (m : Keyed) : Type 0 where
  pub group : List Frame
  pub consecutive : AreConsecutive m.key (frames kind es) group
  pub whole : complete group ≡ true
  pub ends_there : last_line group ≡ line
  pub carries : data_of group ≡ m.message.payload
  pub before_last : List Frame
  pub last : Frame
  pub ends_with : group ≡ before_last ++ last ∷ []
  pub is_of_last : m.message ≡ message_of last group
