-- A group as bytes and a mask: each number has a slot of seven bytes, and the mask has a bit for each filled slot.
use Rattle.std.specs.Prelude.{ℕ, ◌==◌, if◌then◌else◌, List, [], get_or, Option, Some, None, filter_map}
use Rattle.std.specs.Int.{bit_at}
use Rattle.std.specs.List.{range_with_len}
use Rattle.n2k_join.specs.declared.piece.FrameKey.{FrameKey}
use Rattle.n2k_join.specs.Inner.Stored.{key_of}
use Rattle.n2k_join.specs.declared.piece.OpenGroup.{OpenGroup}
use Rattle.n2k_join.specs.Frames.{Key, most_frames}
use Rattle.n2k_join.specs.Open.{Piece, Group, piece_at}

-- the bytes under a number, if its bit is set
abbrev pub slot : ℕ → List (List ℕ) → ℕ → Option (List ℕ)
slot mask slots n = if bit_at mask n == 1 then Some (get_or slots n []) else None

abbrev pub slot_of : OpenGroup → ℕ → Option (List ℕ)
slot_of g = slot g.mask g.slots

abbrev pub group_by : ℕ → Key → ℕ → List (List ℕ) → Group
group_by first key mask slots =
    record { first = first; key = key; pieces = filter_map (piece_at (slot mask slots)) (range_with_len 0 most_frames) }

-- the pieces of a group, by rising number
unfoldable pub pieces_in : OpenGroup → List Piece
pieces_in g = filter_map (piece_at (slot_of g)) (range_with_len 0 most_frames)

-- the state's form of a group of a key
abbrev pub group_in : Key → OpenGroup → Group
group_in key g = group_by g.first key g.mask g.slots

-- the state's form of a group with its key
abbrev pub group_at : FrameKey × OpenGroup → Group
group_at e = group_in (key_of e.0) e.1
