-- As many different pieces as a message has are complete, and carry its data.
use Rattle.std.proofs.Common.{◌≡◌, ℕ, zero, suc, ◌+◌, ◌*◌, ◌-◌, ◌/◌, ◌<◌, Bool, true, false, not, ◌&&◌, List, [], ◌∷◌, ◌++◌, map, take, drop, length, refl, ap, ◌∙◌, arith, Option, Some, ◌==◌, flat_map, slice_index_or, unwrap_or}
use Rattle.std.specs.List.{range_with_len, list_all, AllByRecursion}
use Rattle.std.proofs.lemmas.Bool.{false≢true, and_parts, le-leb, eqb-true, eq-eqb, ne_eqb}
use Rattle.std.proofs.lemmas.List.Elements.{recursion_from_All}
use Rattle.std.proofs.lemmas.List.FromFn.{take-map-range_with_len}
use Rattle.n2k_join.specs.Frames.{Frame}
use Rattle.n2k_join.specs.Groups.{carried, has_number, has_twice, total_by, total, last_number, has_all, is_within, complete, bytes_at, data_of}
use Rattle.n2k_join.specs.Pieces.{sent_byte, piece_bytes, last_piece, Sending}
use Rattle.n2k_join.specs.Scattered.{IsPieceOf}
use Rattle.n2k_join.specs.Arrival.{PiecesJoin}
use Rattle.n2k_join.proofs.Counting.{has_all_numbers}
use Rattle.n2k_join.proofs.PieceFrames.{piece_says}
use Rattle.n2k_join.proofs.Rising.{range-append, all_to, all-map}
use Rattle.std.proofs.Math.Bool.{and-true}

-- a number that the pieces have carries the bytes of that piece
pub carried_pieces : (x : Sending) (fs : List Frame) (n : ℕ) → AllByRecursion (IsPieceOf x) fs → has_number n fs ≡ true → carried fs n ≡ Some (piece_bytes x.message.payload n)
carried_pieces x [] n pieces has = absurd (false≢true has)
carried_pieces x (f ∷ fs) n pieces has = grind (arith, carried_pieces x fs n pieces.1, piece_says, eqb-true)

pieces_below : (x : Sending) (fs : List Frame) → AllByRecursion (IsPieceOf x) fs → AllByRecursion (λ (f : Frame). f.number < last_piece x.message + 1) fs
pieces_below x fs pieces =
    all-map (IsPieceOf x) (λ (f : Frame). f.number < last_piece x.message + 1) fs
    (λ f is. omega (arith, is.in_range)) pieces

none_past : (x : Sending) (fs : List Frame) → AllByRecursion (IsPieceOf x) fs → is_within (last_piece x.message) fs ≡ true
none_past x [] pieces = refl
none_past x (f ∷ fs) pieces = rw (le-leb f.number (last_piece x.message) pieces.0.in_range) (none_past x fs pieces.1)

-- the total, if frame 0 is there
pub total_of : (x : Sending) (fs : List Frame) → AllByRecursion (IsPieceOf x) fs → has_number 0 fs ≡ true → total fs ≡ length x.message.payload
unfolding piece_bytes
total_of x fs pieces has = ap total_by (carried_pieces x fs 0 pieces has)

-- different pieces of a message are complete exactly if they are as many as its pieces
pub complete_pieces : (x : Sending) (fs : List Frame) → AllByRecursion (IsPieceOf x) fs → has_twice fs ≡ false → complete fs ≡ (length fs == last_piece x.message + 1)
unfolding complete
complete_pieces x fs pieces apart = by_first (has_number 0 fs) refl
  where
    m : ℕ
    m = last_piece x.message + 1

    all_there : list_all (λ n. has_number n fs) (range_with_len 0 m) ≡ (length fs == m)
    all_there = has_all_numbers m fs (pieces_below x fs pieces) apart

    by_first : (b : Bool) → has_number 0 fs ≡ b → not (has_twice fs) && (b && (has_all (last_number (total fs)) fs && is_within (last_number (total fs)) fs)) ≡ (length fs == m)
    by_first b e = grind (arith, total_of, none_past, and-true, all_there, all_to, m)

-- chunks of seven, joined
chunks : (payload : List ℕ) (a k : ℕ) → flat_map (piece_bytes payload) (range_with_len a k) ≡ map (sent_byte payload) (range_with_len (7 * a) (7 * k))
unfolding piece_bytes
chunks payload a zero = refl
chunks payload a (suc k) = grind (arith, chunks payload (a + 1) k, range-append (7 * a) 7 (7 * k))

-- a list by its items
looked_up : (g : ℕ → ℕ) (a : ℕ) (xs : List ℕ) → ((k : ℕ) → k < length xs → g (a + k) ≡ slice_index_or xs k 255) → map g (range_with_len a (length xs)) ≡ xs
looked_up g a [] e = refl
looked_up g a (x ∷ xs) e =
    let here : a ≡ a + 0 = omega arith in
    let there : (k : ℕ) → (a + 1) + k ≡ a + suc k = λ k. omega arith in
    ap (λ h. h ∷ map g (range_with_len (a + 1) (length xs))) (ap g here ∙ e 0 (omega arith))
    ∙ ap (λ l. x ∷ l) (looked_up g (a + 1) xs (λ k h. ap g (there k) ∙ e (suc k) (omega (arith, h))))

-- the bytes that pieces carry under the numbers that they have
bytes_pieces : (x : Sending) (fs : List Frame) (ns : List ℕ) → AllByRecursion (IsPieceOf x) fs → list_all (λ n. has_number n fs) ns ≡ true → flat_map (bytes_at fs) ns ≡ flat_map (piece_bytes x.message.payload) ns
bytes_pieces x fs [] pieces all = refl
bytes_pieces x fs (n ∷ ns) pieces all =
    let parts = and_parts _ _ all in
    ap (λ (o : Option (List ℕ)). unwrap_or o [] ++ flat_map (bytes_at fs) ns) (carried_pieces x fs n pieces parts.0)
    ∙ ap (λ l. piece_bytes x.message.payload n ++ l) (bytes_pieces x fs ns pieces parts.1)

-- the bytes after the first, cut to the length of the data, are the data
sent_data : (payload : List ℕ) → take (length payload) (drop 1 (map (sent_byte payload) (range_with_len 0 (7 * (length payload / 7 + 1))))) ≡ payload
sent_data payload = grind (arith, take-map-range_with_len (sent_byte payload) 1 ((length payload) + (7 * (length payload / 7 + 1) - (length payload + 1))) (length payload) (omega arith), looked_up)

-- all pieces of a message carry its data
pub data_pieces : (x : Sending) (fs : List Frame) → AllByRecursion (IsPieceOf x) fs → has_twice fs ≡ false → length fs ≡ last_piece x.message + 1 → data_of fs ≡ x.message.payload
unfolding data_of
data_pieces x fs pieces apart full =
    let m = last_piece x.message + 1 in
    let all_there : list_all (λ n. has_number n fs) (range_with_len 0 m) ≡ true = has_all_numbers m fs (pieces_below x fs pieces) apart ∙ eq-eqb _ _ full in
    let first : has_number 0 fs ≡ true = all_to (λ n. has_number n fs) 0 m 0 all_there (omega arith) (omega arith) in
    ap (λ t. take t (drop 1 (flat_map (bytes_at fs) (range_with_len 0 (last_number t + 1))))) (total_of x fs pieces first)
    ∙ (ap (λ l. take (length x.message.payload) (drop 1 l)) (bytes_pieces x fs (range_with_len 0 m) pieces all_there ∙ chunks x.message.payload 0 m)
    ∙ sent_data x.message.payload)

pub pieces_join : (x : Sending) → PiecesJoin x
pieces_join x = record {
  complete_together = λ fs is. complete_pieces x fs (recursion_from_All (IsPieceOf x) fs is.pieces.each) is.pieces.apart ∙ eq-eqb _ _ is.whole;
  carry_data = λ fs is. data_pieces x fs (recursion_from_All (IsPieceOf x) fs is.pieces.each) is.pieces.apart is.whole;
  no_part = λ fs are few. complete_pieces x fs (recursion_from_All (IsPieceOf x) fs are.each) are.apart ∙ ne_eqb _ _ (λ same. omega arith);
}
