-- Reading a text as a saved state: the state that it spells, or the first reason why it is refused. Any JSON text is
-- accepted that `serde_json` reads as such an object: with spaces, members in another order, digits of either case.
use Rattle.std.specs.Prelude.{ℕ, ◌+◌, ◌==◌, nat_le, nat_lt, Bool, true, false, not, ◌&&◌, ◌||◌, slice_index_or, codes}
use Rattle.std.specs.Prelude.{List, [], ◌∷◌, ◌++◌, length, if◌then◌else◌, Option, None, option_and_then, Result}
use Rattle.std.specs.Prelude.{Ok, Err}
use Rattle.std.specs.List.{list_any}
use Rattle.std.specs.Result.{result_ok}
use Rattle.std.specs.Str.{bytes_eq, is_utf8}
use Rattle.hex.specs.Hex.{decode_sized}
use Rattle.serde_json.specs.Data.{Data, Items, no_items, item, Members, no_members, member}
use Rattle.serde_json.specs.Find.{get, as_number, as_u64, as_str, as_array, as_object}
use Rattle.serde_json.specs.Read.{read}
use Rattle.n2k_wire.specs.Packet.{greatest_pgn, longest_message}
use Rattle.n2k_wire.specs.Plain.{greatest_address}
use Rattle.n2k_table.specs.declared.definition.Kind.{Kind}
use Rattle.n2k_join.specs.declared.counts.Counts.{Counts}
use Rattle.n2k_join.specs.declared.fault.StateFault.{StateFault}
use Rattle.n2k_join.specs.declared.fault.StateFault.TheVariants.{NotJson, Format, Shape, TableDiffers, WindowDiffers}
use Rattle.n2k_join.specs.declared.fault.StateFault.TheVariants.{Invalid}
use Rattle.n2k_join.specs.declared.saved.object.Object.{Object}
use Rattle.n2k_join.specs.declared.saved.object.Object.TheVariants as objects
use Rattle.n2k_join.specs.declared.saved.object.StateFormat.{StateFormat}
use Rattle.n2k_join.specs.declared.saved.object.StateFormat.TheVariants.{WithoutWindow, WithWindow}
use Rattle.n2k_join.specs.Counts.{most_lines}
use Rattle.n2k_join.specs.Frames.{Key, same_key, frame_bytes, most_frames, most_sequences}
use Rattle.n2k_join.specs.Groups.{complete}
use Rattle.n2k_join.specs.Open.{Piece, Group}
use Rattle.n2k_join.specs.Pieces.{is_fast}
use Rattle.n2k_join.specs.State.{State, held_of}
use Rattle.n2k_join.specs.Saved.{saved_format, old_format, are_waiting}
use Rattle.n2k_wire.specs.Steps.{◌>>=◌, or_cause, holds_or}
use Rattle.n2k_join.specs.Window.{Window}

-- the members of a state without a window
abbrev pub state_names : List (List ℕ)
state_names =
    codes "bad" ∷ codes "broken" ∷ codes "format" ∷ codes "groups" ∷ codes "lines" ∷ codes "messages" ∷ codes "table"
    ∷ codes "unknown" ∷ []

-- the members that an object has
abbrev pub names : Object → List (List ℕ)
names (objects.State WithoutWindow) = state_names
names (objects.State WithWindow) = state_names ++ codes "window" ∷ []
names objects.Group = codes "dst" ∷ codes "first" ∷ codes "frames" ∷ codes "pgn" ∷ codes "seq" ∷ codes "src" ∷ []

abbrev pub is_name : Object → List ℕ → Bool
is_name object name = list_any (λ n. bytes_eq name n) (names object)

abbrev pub has_only : Object → Members → Bool
has_only object no_members = true
has_only object (member name d ms) = is_name object name && has_only object ms

-- The value is an object without unknown members. The readers of the members require each of them.
abbrev pub members_at : Object → Data → Result (Unit {0}) StateFault
members_at object d = do
  ms ← or_cause Shape (as_object d)
  holds_or Shape (has_only object ms)

-- the value of a required member
abbrev pub required : List ℕ → Data → Result Data StateFault
required name d = or_cause Shape (get name d)

-- a whole number from 0 to 2^64 - 1
abbrev pub as_int : Data → Option ℕ
as_int d = option_and_then as_u64 (as_number d)

abbrev pub count_at : List ℕ → Data → Result ℕ StateFault
count_at name d = do
  e ← required name d
  or_cause Shape (as_int e)

-- so many bytes as hexadecimal digits of either case
abbrev pub digits_of : ℕ → Data → Result (List ℕ) StateFault
digits_of count d = do
  text ← or_cause Shape (as_str d)
  or_cause Shape (result_ok (decode_sized text count))

-- the elements of an array, as a list
abbrev pub values_in : Items → List Data
values_in no_items = []
values_in (item d ds) = d ∷ values_in ds

abbrev pub elements_of : Data → Result (List Data) StateFault
elements_of d = do
  ds ← or_cause Shape (as_array d)
  Ok (values_in ds)

-- the items of a list, read in turn
abbrev pub each : {A : Type 0} → (Data → Result A StateFault) → List Data → Result (List A) StateFault
each f [] = Ok []
each f (d ∷ ds) = do
  x ← f d
  xs ← each f ds
  Ok (x ∷ xs)

-- a frame is an array of two: its number, and its seven bytes
abbrev pub piece_in : List Data → Result Piece StateFault
piece_in (first ∷ second ∷ []) = do
  number ← or_cause Shape (as_int first)
  bytes ← digits_of frame_bytes second
  Ok (record { number = number; bytes = bytes })
piece_in _ = Err Shape

unfoldable pub read_piece : Data → Result Piece StateFault
read_piece d = do
  ds ← elements_of d
  piece_in ds

unfoldable pub read_key : Data → Result Key StateFault
read_key d = do
  dst ← count_at (codes "dst") d
  pgn ← count_at (codes "pgn") d
  sequence ← count_at (codes "seq") d
  src ← count_at (codes "src") d
  Ok (record { src = src; dst = dst; pgn = pgn; sequence = sequence })

unfoldable pub read_pieces : Data → Result (List Piece) StateFault
read_pieces d = do
  e ← required (codes "frames") d
  ds ← elements_of e
  each read_piece ds

unfoldable pub read_group : Data → Result Group StateFault
read_group d = do
  known ← members_at objects.Group d
  key ← read_key d
  first ← count_at (codes "first") d
  pieces ← read_pieces d
  Ok (record { first = first; key = key; pieces = pieces })

unfoldable pub read_groups : Data → Result (List Group) StateFault
read_groups d = do
  e ← required (codes "groups") d
  ds ← elements_of e
  each read_group ds

-- The counts in the text. The count of open groups is not there: it is their number.
unfoldable pub read_counts : Data → Result Counts StateFault
read_counts d = do
  bad ← count_at (codes "bad") d
  broken ← count_at (codes "broken") d
  lines ← count_at (codes "lines") d
  messages ← count_at (codes "messages") d
  unknown ← count_at (codes "unknown") d
  Ok (record { lines = lines; messages = messages; bad = bad; unknown = unknown; broken = broken; held = 0 })

unfoldable pub read_id : Data → Result (List ℕ) StateFault
read_id d = do
  e ← required (codes "table") d
  digits_of 32 e

-- a state whose count of open groups is their number
abbrev pub state_of_parts : List ℕ → Window → Counts → List Group → State
state_of_parts id window counts groups =
    record { id = id; window = window; counts = record counts { held = length groups }; groups = groups }

-- The window of a state, by its format, or the given one if the state has no window.
abbrev pub read_window : StateFormat → ℕ → Data → Result ℕ StateFault
read_window WithWindow lines d = count_at (codes "window") d
read_window WithoutWindow lines d = Ok lines

-- The state that a value of a format spells, whatever its numbers. The given window decides whether it is in order.
unfoldable pub read_state : StateFormat → Window → Data → Result State StateFault
read_state format window d = do
  known ← members_at (objects.State format) d
  counts ← read_counts d
  id ← read_id d
  groups ← read_groups d
  lines ← read_window format window.lines d
  Ok (state_of_parts id (record { lines = lines; in_order = window.in_order }) counts groups)

-- the format of a state's value
abbrev pub format_in : Data → Result StateFormat StateFault
format_in d = do
  n ← or_cause Format (option_and_then as_int (get (codes "format") d))
  if n == old_format then Ok WithoutWindow else if n == saved_format then Ok WithWindow else Err Format

-- The rules of a valid state. Each line counts at most once as a message, as bad or as unknown, and opens at most one
-- group, which is broken or open.
unfoldable pub counts_hold : Counts → Bool
counts_hold c =
    nat_le c.lines most_lines && (nat_le (c.broken + c.held) c.lines && nat_le (c.messages + c.bad + c.unknown) c.lines)

-- each group was opened at a line, and no two at the same
unfoldable pub firsts_rise : ℕ → ℕ → List Group → Bool
firsts_rise least lines [] = true
firsts_rise least lines (g ∷ gs) = nat_le least g.first && (nat_le g.first lines && firsts_rise (g.first + 1) lines gs)

-- a key is one that frames of the table's fast PGNs can have
unfoldable pub key_holds : (ℕ → Option Kind) → Key → Bool
key_holds kind k =
    nat_le k.pgn greatest_pgn && (is_fast (kind k.pgn)
    && (nat_le k.src greatest_address && (nat_le k.dst greatest_address && nat_lt k.sequence most_sequences)))

-- a frame 0 has a total that isn't too large
abbrev pub total_holds : ℕ → List ℕ → Bool
total_holds number bytes = not (number == 0) || nat_le (slice_index_or bytes 0 0) longest_message

abbrev pub piece_holds : ℕ → Piece → Bool
piece_holds least p = nat_le least p.number && (nat_lt p.number most_frames && total_holds p.number p.bytes)

-- the numbers rise and are valid frame numbers
unfoldable pub pieces_rise : ℕ → List Piece → Bool
pieces_rise least [] = true
pieces_rise least (p ∷ ps) = piece_holds least p && pieces_rise (p.number + 1) ps

abbrev pub is_some_list : {A : Type 0} → List A → Bool
is_some_list [] = false
is_some_list (x ∷ xs) = true

unfoldable pub group_holds : (ℕ → Option Kind) → Group → Bool
group_holds kind g =
    key_holds kind g.key && (is_some_list g.pieces && (pieces_rise 0 g.pieces && not (complete (held_of g))))

-- each group holds, and no two have one key
unfoldable pub groups_hold : (ℕ → Option Kind) → List Group → Bool
groups_hold kind [] = true
groups_hold kind (g ∷ gs) =
    group_holds kind g && (not (list_any (λ (other : Group). same_key g.key other.key) gs) && groups_hold kind gs)

unfoldable pub is_valid : (ℕ → Option Kind) → State → Bool
is_valid kind s = counts_hold s.counts && (firsts_rise 1 s.counts.lines s.groups && groups_hold kind s.groups)

-- a state with its window has no group whose window has ended
abbrev pub waits_hold : StateFormat → State → Bool
waits_hold WithWindow s = are_waiting s
waits_hold WithoutWindow s = true

-- a value if the test holds, and else Invalid
abbrev pub valid_if : {A : Type 0} → Bool → A → Result A StateFault
valid_if true x = Ok x
valid_if false x = Err Invalid

-- the JSON value of a text in UTF-8
abbrev pub parsed : List ℕ → Option Data
parsed bytes = if is_utf8 bytes then read bytes else None

-- The state that the bytes spell under a table and a window, or their first fault. A window in the bytes never replaces
-- the given one.
unfoldable pub resumed : (ℕ → Option Kind) → List ℕ → Window → List ℕ → Result State StateFault
resumed kind id window bytes = do
  d ← or_cause NotJson (parsed bytes)
  format ← format_in d
  s ← read_state format window d
  same ← holds_or TableDiffers (bytes_eq s.id id)
  as_long ← holds_or WindowDiffers (s.window.lines == window.lines)
  in_time ← holds_or Invalid (waits_hold format s)
  valid_if (is_valid kind s) s
