-- The text of a valid state is read as that state.
use Rattle.std.proofs.Common.{◌≡◌, ◌≤◌, ◌<◌, ◌+◌, ◌^◌, ◌==◌, ℕ, zero, suc, Bool, true, false, if◌then◌else◌, List, [], ◌∷◌, length, map, Option, Some, Result, Ok, Err, codes, refl, ◌∙◌, arith}
use Rattle.std.specs.List.{AllByRecursion}
use Rattle.hex.specs.Hex.{IsBytes, encode_lower}
use Rattle.hex.proofs.HexLemmas.{decode_sized-encode_lower}
use Rattle.json.specs.Tree.{depth, items_depth}
use Rattle.json.proofs.Printed.Utf8.{are_ascii, IsUtf8-are_ascii}
use Rattle.serde_json.specs.Data.{Data, Members, member, no_members, string}
use Rattle.serde_json.specs.Read.{of_json, of_items}
use Rattle.serde_json.specs.View.{items_of}
use Rattle.serde_json.specs.Written.{outline, items_outline, compact_text}
use Rattle.serde_json.proofs.Numbers.{number_of-decimal}
use Rattle.n2k_join.specs.Open.{Piece, Group}
use Rattle.n2k_join.specs.Resumed.{each, values_in, format_in, read_piece, read_group, read_key, read_pieces, read_groups, read_counts, read_id, is_valid, read_state, state_of_parts, resumed, parsed, valid_if, waits_hold}
use Rattle.n2k_join.specs.Saved.{IsId, are_waiting, list, piece_tree, group_tree, state_text, format_by, window_member, tree_by, whole}
use Rattle.n2k_join.specs.State.{State, IsState, AreCounts, AreFast, AreWaiting, IsKey, IsPiece, IsOpen, HasParts}
use Rattle.n2k_join.specs.Window.{Window, IsWindow}
use Rattle.n2k_join.specs.declared.counts.Counts.{Counts}
use Rattle.n2k_join.specs.declared.saved.object.StateFormat.{StateFormat}
use Rattle.n2k_join.specs.declared.saved.object.StateFormat.TheVariants.{WithoutWindow, WithWindow}
use Rattle.n2k_wire.specs.Steps.{◌>>=◌, or_cause, holds_or}
use Rattle.n2k_join.specs.declared.fault.StateFault.{StateFault}
use Rattle.n2k_join.specs.declared.fault.StateFault.TheVariants.{NotJson, TableDiffers, WindowDiffers, Invalid}
use Rattle.n2k_table.specs.declared.definition.Kind.{Kind}
use Rattle.n2k_join.proofs.ValidStates.{state_valid, parsed_some, in_time-to}
use Rattle.n2k_join.specs.Counts.{most_lines}
use Rattle.n2k_join.specs.Frames.{most_frames}
use Rattle.n2k_join.proofs.Rising.{all-map, all-zip}
use Rattle.n2k_join.proofs.SavedDigits.{IsUtf8-encode_lower}
use Rattle.std.specs.Str.{bytes_eq}
use Rattle.std.proofs.lemmas.Slice.Eq.{bytes_eq-Decides}
use Rattle.n2k_join.proofs.WrittenReads.{IsPlain, ArePlain, ArePlainMembers, text_utf8, compact_reads}

-- A tree that is written and read back: it is plain, nests no deeper than this, and reads as itself.
pub record IsTree (deep : ℕ) (d : Data) : Type 0 where
  pub plain : IsPlain d
  pub shallow : depth (outline d) ≤ deep
  pub back : of_json (outline d) ≡ Some d

-- a list of trees
lists_plain : {X : Type 0} (deep : ℕ) (f : X → Data) (xs : List X) → AllByRecursion (λ x. IsTree deep (f x)) xs → ArePlain (items_of (map f xs))
lists_plain deep f [] all = tt
lists_plain deep f (x ∷ xs) all = (all.0.plain, lists_plain deep f xs all.1)

lists_shallow : {X : Type 0} (deep : ℕ) (f : X → Data) (xs : List X) → AllByRecursion (λ x. IsTree deep (f x)) xs → items_depth (items_outline (items_of (map f xs))) ≤ deep
lists_shallow deep f [] all = omega arith
lists_shallow deep f (x ∷ xs) all = grind (arith, lists_shallow deep f xs all.1)

lists_back : {X : Type 0} (deep : ℕ) (f : X → Data) (xs : List X) → AllByRecursion (λ x. IsTree deep (f x)) xs → of_items (items_outline (items_of (map f xs))) ≡ Some (items_of (map f xs))
lists_back deep f [] all = refl
lists_back deep f (x ∷ xs) all = rw (all.0.back, lists_back deep f xs all.1) refl

pub lists : {X : Type 0} (deep : ℕ) (f : X → Data) (xs : List X) → AllByRecursion (λ x. IsTree deep (f x)) xs → IsTree (deep + 1) (list (map f xs))
lists deep f xs all = grind (arith, lists_plain, lists_shallow, lists_back)

-- a frame that a state can hold
pub record IsHeld (p : Piece) : Type 0 where
  pub small : p.number < most_frames
  pub piece : IsPiece p

bytes_at : (bs : List ℕ) → AllByRecursion (λ byte. byte < 256) bs → IsBytes bs
bytes_at [] all i = omega arith
bytes_at (b ∷ bs) all zero = all.0
bytes_at (b ∷ bs) all (suc i) = bytes_at bs all.1 i

pub piece-tree : (p : Piece) → IsHeld p → IsTree 1 (piece_tree p)
unfolding piece_tree
piece-tree p is = record {
  plain = (omega (arith, is.small), (IsUtf8-encode_lower p.bytes, tt));
  shallow = omega arith;
  back = rw (number_of-decimal p.number (omega (arith, is.small))) refl;
}

pub piece-reads : (p : Piece) → IsHeld p → read_piece (piece_tree p) ≡ Ok p
unfolding read_piece piece_tree
piece-reads p is = rw (decode_sized-encode_lower p.bytes 7 is.piece.seven (bytes_at p.bytes is.piece.are_bytes)) refl

-- the items of a list are read back
pub each-reads : {X : Type 0} (f : X → Data) (g : Data → Result X StateFault) (xs : List X) → AllByRecursion (λ x. g (f x) ≡ Ok x) xs → each g (values_in (items_of (map f xs))) ≡ Ok xs
each-reads f g [] all = refl
each-reads f g (x ∷ xs) all = rw (all.0, each-reads f g xs all.1) refl

-- members after the first of an object, with names that are text
record ArePlainTexts (ms : Members) : Type 0 where
  each : ArePlainMembers ms

plain_none : ArePlainTexts no_members
plain_none = record { each = tt }

plain_member : (k : List ℕ) (d : Data) {ms : Members} → are_ascii k ≡ true → IsPlain d → ArePlainTexts ms
    → ArePlainTexts (member k d ms)
plain_member k d ascii plain rest = record { each = (IsUtf8-are_ascii k ascii, plain, rest.each) }

-- a group that a state can hold
pub record IsKept (g : Group) : Type 0 where
  pub key : IsKey g.key
  pub first : g.first ≤ most_lines
  pub pieces : AllByRecursion IsHeld g.pieces

pub group-tree : (g : Group) → IsKept g → IsTree 3 (group_tree g)
unfolding group_tree
group-tree g is =
    let frames = lists 1 piece_tree g.pieces (all-map IsHeld (λ p. IsTree 1 (piece_tree p)) g.pieces piece-tree is.pieces) in
    let src = plain_member (codes "src") (whole g.key.src) refl (omega (arith, is.key.src)) plain_none in
    let seq = plain_member (codes "seq") (whole g.key.sequence) refl (omega (arith, is.key.sequence)) src in
    let pgn = plain_member (codes "pgn") (whole g.key.pgn) refl (omega (arith, is.key.pgn)) seq in
    let pieces = plain_member (codes "frames") (list (map piece_tree g.pieces)) refl frames.plain pgn in
    let first = plain_member (codes "first") (whole g.first) refl (omega (arith, is.first)) pieces in
    record {
      plain = (plain_member (codes "dst") (whole g.key.dst) refl (omega (arith, is.key.dst)) first).each;
      shallow = let more = frames.shallow in omega arith;
      back = rw (number_of-decimal g.key.dst (omega (arith, is.key.dst)), number_of-decimal g.first (omega (arith, is.first)), frames.back, number_of-decimal g.key.pgn (omega (arith, is.key.pgn)), number_of-decimal g.key.sequence (omega (arith, is.key.sequence)), number_of-decimal g.key.src (omega (arith, is.key.src))) refl;
    }

pub group-reads : (g : Group) → IsKept g → read_group (group_tree g) ≡ Ok g
unfolding read_group read_key read_pieces group_tree
group-reads g is = rw (each-reads piece_tree read_piece g.pieces (all-map IsHeld (λ p. read_piece (piece_tree p) ≡ Ok p) g.pieces piece-reads is.pieces)) refl

-- the facts of a state that its text needs
kept_groups : (s : State) → IsState s → AllByRecursion IsKept s.groups
kept_groups s is =
    all-map (λ (g : Group). HasParts g × (IsOpen g × (g.first ≤ s.counts.lines))) IsKept s.groups
    (λ g h. record {
      key = h.0.key;
      first = let few = is.counted.lines in let at = h.1.1 in omega arith;
      pieces = all-map (λ (p : Piece). (p.number < most_frames) × IsPiece p) IsHeld g.pieces (λ p k. record { small = k.0; piece = k.1 })
          (all-zip (λ (p : Piece). p.number < most_frames) IsPiece g.pieces h.1.0.numbers h.0.pieces);
    })
    (all-zip HasParts (λ (g : Group). IsOpen g × (g.first ≤ s.counts.lines)) s.groups is.parts
    (all-zip IsOpen (λ (g : Group). g.first ≤ s.counts.lines) s.groups is.groups.each is.groups.begun))

abbrev format_of : Bool → StateFormat
format_of with_window = if with_window then WithWindow else WithoutWindow

-- the trees of the groups
groups-tree : (s : State) → IsState s → IsTree 4 (list (map group_tree s.groups))
groups-tree s is = lists 3 group_tree s.groups (all-map IsKept (λ (g : Group). IsTree 3 (group_tree g)) s.groups group-tree (kept_groups s is))

-- the counts as numbers of a text
record AreSmall (c : Counts) : Type 0 where
  bad : c.bad < 2 ^ 64
  broken : c.broken < 2 ^ 64
  lines : c.lines < 2 ^ 64
  messages : c.messages < 2 ^ 64
  unknown : c.unknown < 2 ^ 64

counts-small : (c : Counts) → AreCounts c → AreSmall c
counts-small c are = grind arith

format-small : (with_window : Bool) → format_by with_window < 2 ^ 64
format-small with_window = grind arith

last-plain : (with_window : Bool) (s : State) → IsWindow s.window.lines → ArePlainTexts (window_member with_window s.window.lines)
last-plain true s is = plain_member (codes "window") (whole s.window.lines) refl (omega (arith, is.most)) plain_none
last-plain false s is = plain_none

tree-plain : (with_window : Bool) (s : State) → IsState s → IsPlain (tree_by with_window s)
unfolding tree_by
tree-plain with_window s is =
    let small = counts-small s.counts is.counted in
    let last = last-plain with_window s is.window in
    let unknown = plain_member (codes "unknown") (whole s.counts.unknown) refl small.unknown last in
    let table = plain_member (codes "table") (string (encode_lower s.id)) refl (IsUtf8-encode_lower s.id) unknown in
    let messages = plain_member (codes "messages") (whole s.counts.messages) refl small.messages table in
    let lines = plain_member (codes "lines") (whole s.counts.lines) refl small.lines messages in
    let groups = plain_member (codes "groups") (list (map group_tree s.groups)) refl (groups-tree s is).plain lines in
    let format = plain_member (codes "format") (whole (format_by with_window)) refl (format-small with_window) groups in
    let broken = plain_member (codes "broken") (whole s.counts.broken) refl small.broken format in
    (plain_member (codes "bad") (whole s.counts.bad) refl small.bad broken).each

tree-shallow : (with_window : Bool) (s : State) → IsState s → depth (outline (tree_by with_window s)) ≤ 5
unfolding tree_by
tree-shallow with_window s is = grind (arith, groups-tree)

tree-back : (with_window : Bool) (s : State) → IsState s → of_json (outline (tree_by with_window s)) ≡ Some (tree_by with_window s)
unfolding tree_by
tree-back with_window s is = grind (arith, number_of-decimal, groups-tree)

-- the state that is read under a given window
abbrev read_under : Bool → Window → State → State
read_under with_window w s = record { id = s.id; window = record { lines = if with_window then s.window.lines else w.lines; in_order = w.in_order }; counts = s.counts; groups = s.groups }

-- the groups of its text
groups-back : (s : State) → IsState s → each read_group (values_in (items_of (map group_tree s.groups))) ≡ Ok s.groups
groups-back s is = grind (arith, each-reads, all-map, group-reads, kept_groups)

pub state-reads : (with_window : Bool) (w : Window) (s : State) → IsState s → IsId s.id → read_state (format_of with_window) w (tree_by with_window s) ≡ Ok (read_under with_window w s)
unfolding read_state read_counts read_id read_groups tree_by
state-reads with_window w s is id = grind (arith, decode_sized-encode_lower, groups-back)

bytes_eq-same : (bs : List ℕ) → bytes_eq bs bs ≡ true
bytes_eq-same bs = (bytes_eq-Decides bs bs).1 refl

-- the tests that remain after the members of a text are read
abbrev asked : (ℕ → Option Kind) → List ℕ → Window → StateFormat → State → Result State StateFault
asked kind id w format s = do
  same ← holds_or TableDiffers (bytes_eq s.id id)
  as_long ← holds_or WindowDiffers (s.window.lines == w.lines)
  in_time ← holds_or Invalid (waits_hold format s)
  valid_if (is_valid kind s) s

text-asked : (kind : ℕ → Option Kind) (id : List ℕ) (w : Window) (s : State) → IsState s → IsId s.id
    → resumed kind id w (state_text s) ≡ asked kind id w (format_of (are_waiting s)) (read_under (are_waiting s) w s)
unfolding resumed tree_by state_text
text-asked kind id w s is known = by (are_waiting s)
  where
    text : (with_window : Bool) → or_cause NotJson (parsed (compact_text (tree_by with_window s))) ≡ Ok (tree_by with_window s)
    text with_window =
        let plain = tree-plain with_window s is in
        let depth_ok : depth (outline (tree_by with_window s)) ≤ 127 = let few = tree-shallow with_window s is in omega arith in
        parsed_some (compact_text (tree_by with_window s)) (tree_by with_window s) (text_utf8 (tree_by with_window s) plain) (compact_reads (tree_by with_window s) plain depth_ok (tree-back with_window s is))

    by : (with_window : Bool) → resumed kind id w (compact_text (tree_by with_window s)) ≡ asked kind id w (format_of with_window) (read_under with_window w s)
    by with_window = grind (arith, text, state-reads)

-- The text of a valid state whose groups are of fast PGNs of its table spells that state under its window, with either
-- order of frames.
pub state_under : (kind : ℕ → Option Kind) (s : State) (order : Bool) → IsState s → AreFast kind s.groups → IsId s.id
    → resumed kind s.id (record { lines = s.window.lines; in_order = order }) (state_text s) ≡ Ok (record { id = s.id; window = record { lines = s.window.lines; in_order = order }; counts = s.counts; groups = s.groups })
unfolding is_valid
state_under kind s order is fast id = text-asked kind s.id w s is id ∙ by (are_waiting s) refl
  where
    w : Window
    w = record { lines = s.window.lines; in_order = order }

    ruled : State
    ruled = record { id = s.id; window = w; counts = s.counts; groups = s.groups }

    answers : (place : StateFormat) → waits_hold place ruled ≡ true → asked kind s.id w place ruled ≡ Ok ruled
    answers place waits = grind (arith, ruled, state_valid, bytes_eq-same)

    by : (with_window : Bool) → are_waiting s ≡ with_window
        → asked kind s.id w (format_of with_window) (read_under with_window w s) ≡ Ok ruled
    by with_window e = grind (arith, answers)

pub state_back : (kind : ℕ → Option Kind) (s : State) → IsState s → AreFast kind s.groups → IsId s.id → resumed kind s.id s.window (state_text s) ≡ Ok s
state_back kind s is fast id = state_under kind s s.window.in_order is fast id

-- A state with its window is refused under another window.
pub state_elsewhere : (kind : ℕ → Option Kind) (s : State) (w : Window) → IsState s → AreWaiting s → IsId s.id → (s.window.lines ≡ w.lines → ⊥)
    → resumed kind s.id w (state_text s) ≡ Err WindowDiffers
state_elsewhere kind s w is waits id other = grind (arith, bytes_eq-same, text-asked, in_time-to)

-- The result of reading a text, after each test except the rules.
pub resumed-by : (kind : ℕ → Option Kind) (id bytes : List ℕ) (w : Window) (d : Data) (format : StateFormat) (s : State)
    → or_cause NotJson (parsed bytes) ≡ Ok d → format_in d ≡ Ok format → read_state format w d ≡ Ok s
    → bytes_eq s.id id ≡ true → (s.window.lines == w.lines) ≡ true → waits_hold format s ≡ true
    → resumed kind id w bytes ≡ valid_if (is_valid kind s) s
unfolding resumed
resumed-by kind id bytes w d format s text place spells table window waits = rw text (rw place (rw spells (rw table (rw window (rw waits refl)))))

-- a state that was read is made of its parts and the given window, if the windows are equal
pub of-parts : (s : State) (id : List ℕ) (window : ℕ) (order : Bool) (counts : Counts) (gs lent : List Group) (w : Window)
    → record { id = id; window = record { lines = window; in_order = order }; counts = record counts { held = length gs }; groups = gs } ≡ s
    → s.window.lines ≡ w.lines → s.window.in_order ≡ w.in_order → lent ≡ gs → s ≡ state_of_parts id w counts lent
of-parts s id window order counts gs lent w view same_window same_order same = grind arith
