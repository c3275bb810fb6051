-- The text of a saved state: one JSON object, compact as `serde_json` writes it, with the members of each object in the
-- order of their names. It has the lines of the window, but not whether the window is in order.
use Rattle.std.specs.Prelude.{◌≡◌, ℕ, Bool, if◌then◌else◌, List, length, map, codes}
use Rattle.std.specs.List.{list_all}
use Rattle.serde_json.specs.Data.{Data, Members, number, unsigned, string, array, object, no_items, item, no_members}
use Rattle.serde_json.specs.Data.{member}
use Rattle.serde_json.specs.View.{items_of}
use Rattle.serde_json.specs.Written.{compact_text}
use Rattle.hex.specs.Hex.{encode_lower, IsBytes}
use Rattle.n2k_join.specs.Open.{Piece, Group, is_waiting}
use Rattle.n2k_join.specs.State.{State}

-- a whole number
abbrev pub whole : ℕ → Data
whole n = number (unsigned n)

-- the format of a state with its window, and of one without
abbrev pub saved_format : ℕ
saved_format = 2

abbrev pub old_format : ℕ
old_format = 1

-- No group's window has ended. Otherwise the state was read in the old format and has taken no line since.
abbrev pub are_waiting : State → Bool
are_waiting s = list_all (is_waiting s.window s.counts.lines) s.groups

-- the format of a state with its window or without, and its last member
abbrev pub format_by : Bool → ℕ
format_by with_window = if with_window then saved_format else old_format

abbrev pub window_member : Bool → ℕ → Members
window_member with_window window = if with_window then member (codes "window") (whole window) no_members else no_members

-- a list of values
abbrev pub list : List Data → Data
list ds = array (items_of ds)

-- a frame: its number, and its seven bytes as hexadecimal digits in lower case
unfoldable pub piece_tree : Piece → Data
piece_tree piece = array (item (whole piece.number) (item (string (encode_lower piece.bytes)) no_items))

-- an open group
unfoldable pub group_tree : Group → Data
group_tree g = object (
    member (codes "dst") (whole g.key.dst) (
    member (codes "first") (whole g.first) (
    member (codes "frames") (list (map piece_tree g.pieces)) (
    member (codes "pgn") (whole g.key.pgn) (
    member (codes "seq") (whole g.key.sequence) (
    member (codes "src") (whole g.key.src) no_members))))))

-- a state with its window or without
unfoldable pub tree_by : Bool → State → Data
tree_by with_window s = object (
    member (codes "bad") (whole s.counts.bad) (
    member (codes "broken") (whole s.counts.broken) (
    member (codes "format") (whole (format_by with_window)) (
    member (codes "groups") (list (map group_tree s.groups)) (
    member (codes "lines") (whole s.counts.lines) (
    member (codes "messages") (whole s.counts.messages) (
    member (codes "table") (string (encode_lower s.id)) (
    member (codes "unknown") (whole s.counts.unknown) (window_member with_window s.window.lines)))))))))

-- The state as it is saved. With the window of a group ended, a state that had its window would be refused; so it is
-- saved without.
abbrev pub state_tree : State → Data
state_tree s = tree_by (are_waiting s) s

-- the text of a saved state
unfoldable pub state_text : State → List ℕ
state_text s = compact_text (state_tree s)

-- the most bytes of a state's text without open groups, and the most bytes that each group adds
abbrev pub bare_bytes : ℕ
bare_bytes = 300

abbrev pub group_bytes : ℕ
group_bytes = 800

-- the id of a table: 32 bytes
pub record IsId (id : List ℕ) : Type 0 where
  pub long : length id ≡ 32
  pub are_bytes : IsBytes id
