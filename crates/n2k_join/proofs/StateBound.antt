-- How many bytes the text of a state takes: member by member, and the open groups and their frames one by one.
use Rattle.std.proofs.Common.{◌≡◌, ◌≤◌, ◌<◌, ◌+◌, ◌*◌, ◌/◌, ◌%◌, ◌^◌, ℕ, zero, suc, Bool, true, false, List, [], ◌∷◌, map, length, slice_index, codes, refl, arith, length-append}
use Rattle.std.specs.List.{AllByRecursion}
use Rattle.std.proofs.lemmas.Fmt.{length-decimal-le}
use Rattle.json.specs.Print.{escape_byte, escape, quoted}
use Rattle.hex.specs.Hex.{encode_lower, encode_with, lower_digits}
use Rattle.serde_json.specs.Data.{Data, string, Items, no_items, item, Members, no_members, member, object}
use Rattle.serde_json.specs.View.{items_of}
use Rattle.serde_json.specs.Written.{compact_text, items_text, members_text}
use Rattle.n2k_join.specs.Counts.{most_lines}
use Rattle.n2k_join.specs.Frames.{most_frames}
use Rattle.n2k_join.specs.Open.{Piece, Group}
use Rattle.n2k_join.specs.Saved.{whole, list, piece_tree, group_tree, state_text, tree_by, format_by, window_member, are_waiting, bare_bytes, group_bytes, IsId}
use Rattle.n2k_join.specs.Window.{IsWindow}
use Rattle.n2k_join.specs.State.{State, IsState, IsPiece, HasParts, IsOpen}
use Rattle.n2k_join.proofs.SavedGroups.{small_bytes}
use Rattle.n2k_join.proofs.Rising.{rise-few, all_with, all-zip}

-- ---- numbers and digits

number_short : (k n : ℕ) → 0 < k → n < 10 ^ k → n < 2 ^ 64 → length (compact_text (whole n)) ≤ k
number_short k n some fits small = length-decimal-le k n some fits small

count_short : (n : ℕ) → n ≤ most_lines → length (compact_text (whole n)) ≤ 15
count_short n most = number_short 15 n (omega arith) (omega (arith, most)) (omega (arith, most))

-- a hexadecimal digit needs no escape in a text
unescaped : (ds : List ℕ) (i : ℕ) → AllByRecursion (λ d. length (escape_byte d) ≡ 1) ds → i < length ds → length (escape_byte (slice_index ds i)) ≡ 1
unescaped [] i each lt = absurd (omega (arith, lt))
unescaped (d ∷ ds) zero each lt = each.0
unescaped (d ∷ ds) (suc i) each lt = unescaped ds i each.1 (omega (arith, lt))

digits_alone : AllByRecursion (λ d. length (escape_byte d) ≡ 1) lower_digits
unfolding escape_byte
digits_alone = (refl, (refl, (refl, (refl, (refl, (refl, (refl, (refl, (refl, (refl, (refl, (refl, (refl, (refl, (refl, (refl, tt))))))))))))))))

escape_more : (d : ℕ) (ds : List ℕ) → length (escape_byte d) ≡ 1 → length (escape (d ∷ ds)) ≡ suc (length (escape ds))
escape_more d ds one = let whole = length-append (escape_byte d) (escape ds) in omega (arith, one, whole)

escaped_digits : (bs : List ℕ) → AllByRecursion (λ byte. byte < 256) bs → length (escape (encode_lower bs)) ≡ 2 * length bs
unfolding encode_with
escaped_digits [] h = refl
escaped_digits (b ∷ bs) h =
    let small : b < 256 = h.0 in
    let high = unescaped lower_digits (b / 16) digits_alone (omega (arith, small)) in
    let low = unescaped lower_digits (b % 16) digits_alone (omega (arith, small)) in
    let rest = escaped_digits bs h.1 in
    let second = escape_more (slice_index lower_digits (b % 16)) (encode_lower bs) low in
    let first = escape_more (slice_index lower_digits (b / 16)) (slice_index lower_digits (b % 16) ∷ encode_lower bs) high in
    omega (arith, rest, second, first)

digits_short : (n : ℕ) (bs : List ℕ) → length bs ≡ n → AllByRecursion (λ byte. byte < 256) bs → length (compact_text (string (encode_lower bs))) ≤ 2 * n + 2
digits_short n bs long bytes = grind (arith, escaped_digits, length-append)

-- ---- arrays and objects

item_short : (later : Bool) (d : Data) (ds : Items) (a b : ℕ) → length (compact_text d) ≤ a → length (items_text true ds) ≤ b → length (items_text later (item d ds)) ≤ (1 + a) + b
item_short later d ds a b one more = grind (arith, length-append)

-- no comma is before the first
first_short : (d : Data) (ds : Items) (a b : ℕ) → length (compact_text d) ≤ a → length (items_text true ds) ≤ b → length (items_text false (item d ds)) ≤ a + b
first_short d ds a b one more = grind (arith, length-append)

-- members after the first of an object, and its closing brace, have at most so many bytes
record AreShort (ms : Members) (most : ℕ) : Type 0 where
  fits : length (members_text true ms) ≤ most

none_short : AreShort no_members 1
none_short = record { fits = omega arith }

-- a member whose name has so many characters, and whose value has at most so many bytes
member_short : (k : List ℕ) (d : Data) {ms : Members} (n a : ℕ) {b : ℕ} → length (quoted k) ≡ n
    → length (compact_text d) ≤ a → AreShort ms b → AreShort (member k d ms) (((2 + n) + a) + b)
member_short k d {ms} n a long one more = grind (arith, length-append)

object_short : (k : List ℕ) (d : Data) {ms : Members} {most : ℕ} → AreShort (member k d ms) most
    → length (compact_text (object (member k d ms))) ≤ most
object_short k d are = omega (arith, are.fits)

-- the elements of an array, each of so many bytes at most
items_short : {A : Type 0} (f : A → Data) (a : ℕ) (later : Bool) (xs : List A) → AllByRecursion (λ x. length (compact_text (f x)) ≤ a) xs → length (items_text later (items_of (map f xs))) ≤ (1 + a) * length xs + 1
items_short f a later [] each = omega arith
items_short f a later (x ∷ xs) each = grind (arith, items_short f a true xs each.1, item_short)

list_short : {A : Type 0} (f : A → Data) (a : ℕ) (xs : List A) → AllByRecursion (λ x. length (compact_text (f x)) ≤ a) xs → length (compact_text (list (map f xs))) ≤ (1 + a) * length xs + 2
list_short f a xs each = let items = items_short f a false xs each in omega (arith, items)

-- ---- frames

piece_short : (p : Piece) → IsPiece p → p.number < most_frames → length (compact_text (piece_tree p)) ≤ 21
unfolding piece_tree
piece_short p is small = grind (arith, digits_short 7 p.bytes is.seven is.are_bytes, number_short 2 p.number (omega arith) (omega (arith, small)) (omega (arith, small)), first_short (whole p.number) (item (string (encode_lower p.bytes)) no_items) 2 18 (number_short 2 p.number (omega arith) (omega (arith, small)) (omega (arith, small))) (item_short true (string (encode_lower p.bytes)) no_items 16 1 (digits_short 7 p.bytes is.seven is.are_bytes) (omega arith)))

-- ---- open groups

frames_short : (g : Group) → HasParts g → IsOpen g → length (compact_text (list (map piece_tree g.pieces))) ≤ 706
frames_short g parts is =
    let few = rise-few (λ (p : Piece). p.number) 0 most_frames g.pieces is.rise is.numbers in
    let each =
    all_with IsPiece (λ (p : Piece). p.number < most_frames) _ piece_short g.pieces parts.pieces is.numbers in
    let short = list_short piece_tree 21 g.pieces each in
    omega (arith, few, short)

group_short : (g : Group) → HasParts g → IsOpen g → g.first ≤ most_lines → length (compact_text (group_tree g)) ≤ 785
unfolding group_tree escape_byte
group_short g parts is begun =
    let src = number_short 3 g.key.src (omega arith) (omega (arith, parts.key.src)) (omega (arith, parts.key.src)) in
    let seq = number_short 1 g.key.sequence (omega arith) (omega (arith, parts.key.sequence)) (omega (arith, parts.key.sequence)) in
    let pgn = number_short 8 g.key.pgn (omega arith) (omega (arith, parts.key.pgn)) (omega (arith, parts.key.pgn)) in
    let dst = number_short 3 g.key.dst (omega arith) (omega (arith, parts.key.dst)) (omega (arith, parts.key.dst)) in
    let m-src = member_short (codes "src") (whole g.key.src) 5 3 refl src none_short in
    let m-seq = member_short (codes "seq") (whole g.key.sequence) 5 1 refl seq m-src in
    let m-pgn = member_short (codes "pgn") (whole g.key.pgn) 5 8 refl pgn m-seq in
    let m-frames =
    member_short (codes "frames") (list (map piece_tree g.pieces)) 8 706 refl (frames_short g parts is) m-pgn in
    let m-first = member_short (codes "first") (whole g.first) 7 15 refl (count_short g.first begun) m-frames in
    let m-dst = member_short (codes "dst") (whole g.key.dst) 5 3 refl dst m-first in
    omega (arith, object_short (codes "dst") (whole g.key.dst) m-dst)

-- ---- the state

format_short : (with_window : Bool) → length (compact_text (whole (format_by with_window))) ≤ 1
format_short with_window = grind (arith, number_short)

window_short : (with_window : Bool) (window : ℕ) → IsWindow window → AreShort (window_member with_window window) 18
unfolding escape_byte
window_short with_window window is = grind (arith, member_short (codes "window") (whole window) 8 7 refl (number_short 7 window (omega arith) (omega (arith, is.most)) (omega (arith, is.most))) none_short, none_short)

-- the text of a state that a join can have, of a table's id
pub state-short : (s : State) → IsState s → IsId s.id → length (state_text s) ≤ bare_bytes + group_bytes * length s.groups
unfolding state_text tree_by escape_byte
state-short s is known =
    let n = length s.groups in
    let most : s.counts.lines ≤ most_lines = is.counted.lines in
    let given : s.counts.messages + s.counts.bad + s.counts.unknown ≤ s.counts.lines = is.counted.given in
    let broken : s.counts.broken + s.counts.held ≤ s.counts.lines = is.counted.broken in
    let id = digits_short 32 s.id known.long (small_bytes s.id known.are_bytes) in
    let open_parts = all-zip HasParts IsOpen s.groups is.parts is.groups.each in
    let each = all_with (λ (g : Group). HasParts g × IsOpen g) (λ (g : Group). g.first ≤ s.counts.lines)
    (λ g. length (compact_text (group_tree g)) ≤ 785)
    (λ g is first. group_short g is.0 is.1 (omega (arith, first, most))) s.groups open_parts is.groups.begun in
    let groups : length (compact_text (list (map group_tree s.groups))) ≤ 786 * n + 2 =
    list_short group_tree 785 s.groups each in
    let count : (k : ℕ) → k ≤ s.counts.lines → length (compact_text (whole k)) ≤ 15 =
    λ k l. count_short k (omega (arith, l, most)) in
    let unknown = count s.counts.unknown (omega (arith, given)) in
    let window = window_short (are_waiting s) s.window.lines is.window in
    let m-unknown = member_short (codes "unknown") (whole s.counts.unknown) 9 15 refl unknown window in
    let m-table = member_short (codes "table") (string (encode_lower s.id)) 7 66 refl id m-unknown in
    let messages = count s.counts.messages (omega (arith, given)) in
    let m-messages = member_short (codes "messages") (whole s.counts.messages) 10 15 refl messages m-table in
    let lines = count s.counts.lines (omega arith) in
    let m-lines = member_short (codes "lines") (whole s.counts.lines) 7 15 refl lines m-messages in
    let m-groups = member_short (codes "groups") (list (map group_tree s.groups)) 8 (786 * n + 2) refl groups m-lines in
    let format = format_by (are_waiting s) in
    let m-format = member_short (codes "format") (whole format) 8 1 refl (format_short (are_waiting s)) m-groups in
    let breaks = count s.counts.broken (omega (arith, broken)) in
    let m-broken = member_short (codes "broken") (whole s.counts.broken) 8 15 refl breaks m-format in
    let bad = count s.counts.bad (omega (arith, given)) in
    let m-bad = member_short (codes "bad") (whole s.counts.bad) 5 15 refl bad m-broken in
    omega (arith, object_short (codes "bad") (whole s.counts.bad) m-bad)

-- the saved text of a join, whose groups are lent, is short
pub saved-short : (s view : State) (lent : List Group) (text : List ℕ) → IsState s → IsId s.id → lent ≡ s.groups → s ≡ view
    → text ≡ state_text (record { id = s.id; window = s.window; counts = s.counts; groups = lent }) → length text ≤ bare_bytes + group_bytes * length view.groups
saved-short s view lent text is known same seen written = grind (arith, state-short)
