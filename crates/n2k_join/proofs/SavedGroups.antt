-- Pieces by rising number, as a saved state has them, taken into a group one by one.
use Rattle.std.proofs.lemmas.Grind.{common_steps}
use Rattle.std.proofs.Common.{◌≡◌, ◌≤◌, ◌<◌, ◌+◌, ℕ, zero, suc, true, false, not, ◌&&◌, length, take, drop, subst, List, [], ◌∷◌, ◌++◌, get_or, Option, None, sym, ap, ◌∙◌, arith, slice_index_or}
use Rattle.std.specs.List.{AllByRecursion}
use Rattle.std.proofs.lemmas.Bool.{ltb-true, and_parts, leb-true, and_right}
use Rattle.std.proofs.lemmas.List.{reverse-append, take_more, drop_more, drop_all}
use Rattle.n2k_table.specs.declared.definition.Kind.{Kind}
use Rattle.n2k_join.specs.declared.piece.OpenGroup.{OpenGroup}
use Rattle.n2k_wire.specs.Packet.{longest_message}
use Rattle.n2k_join.specs.Frames.{Key, most_frames}
use Rattle.n2k_join.specs.Groups.{carried, complete}
use Rattle.n2k_join.specs.Open.{Piece, Group, pieces_of}
use Rattle.n2k_join.specs.Resumed.{pieces_rise, piece_holds, total_holds, key_holds, is_some_list, group_holds}
use Rattle.n2k_join.specs.State.{Rise, IsPiece, held_frame, held_of}
use Rattle.n2k_join.specs.Inner.Slots.{slot_of, group_in}
use Rattle.n2k_join.proofs.Carried.{carried-append, pieces_of-same}
use Rattle.n2k_join.proofs.Held.{carried-held, held_frames, pieces-held, number_of}
use Rattle.n2k_join.proofs.Rising.{find-none, all-map, all-append}
use Rattle.n2k_join.proofs.SlotLemmas.{carried-slots}
use Rattle.std.proofs.Math.Bool.{and-false}

pub rise_from : (least : ℕ) (ps : List Piece) → pieces_rise least ps ≡ true → Rise (λ (p : Piece). p.number) least ps
unfolding pieces_rise
rise_from least [] h = tt
rise_from least (p ∷ ps) h =
    let hs = and_parts _ _ h in
    (leb-true least p.number (and_parts _ _ hs.0).0, rise_from (p.number + 1) ps hs.1)

pub small_from : (least : ℕ) (ps : List Piece) → pieces_rise least ps ≡ true → AllByRecursion (λ (p : Piece). p.number < most_frames) ps
unfolding pieces_rise
small_from least [] h = tt
small_from least (p ∷ ps) h =
    let hs = and_parts _ _ h in
    (ltb-true p.number most_frames (and_parts _ _ (and_parts _ _ hs.0).1).0, small_from (p.number + 1) ps hs.1)

pub small_bytes : (bs : List ℕ) → ((i : ℕ) → get_or bs i 0 < 256) → AllByRecursion (λ byte. byte < 256) bs
small_bytes [] h = tt
small_bytes (b ∷ bs) h = (h 0, small_bytes bs (λ i. h (suc i)))

pub total_from : (n : ℕ) (bs : List ℕ) → total_holds n bs ≡ true → n ≡ 0 → slice_index_or bs 0 0 ≤ longest_message
total_from zero bs h e = leb-true (slice_index_or bs 0 0) longest_message h
total_from (suc n) bs h e = absurd (omega (arith, e))

-- ---- pieces that join a group by rising number

-- a piece appended to pieces with smaller numbers
rise-last : (least : ℕ) (ps : List Piece) (p : Piece) → Rise number_of least ps → AllByRecursion (λ (q : Piece). q.number < p.number) ps → least ≤ p.number → Rise number_of least (ps ++ p ∷ [])
rise-last least [] p rise below l = (l, tt)
rise-last least (q ∷ ps) p rise below l = (rise.0, rise-last (q.number + 1) ps p rise.1 below.1 (omega (arith, below.0)))

-- nothing is carried under a number that all others are below
pub carried-past : (o : Group) (ps : List Piece) (n : ℕ) → Rise number_of 0 ps → AllByRecursion (λ (q : Piece). q.number < n) ps → carried (held_frames o ps) n ≡ None
carried-past o ps n rise below = grind (arith, carried-held, find-none, all-map)

-- A piece with a greater number than a group's becomes its last.
pub piece-last : (o : Group) (ps : List Piece) (p : Piece) → o.pieces ≡ ps → Rise number_of 0 ps → AllByRecursion (λ (q : Piece). q.number < p.number) ps
    → AllByRecursion (λ (q : Piece). q.number < most_frames) ps → p.number < most_frames
    → pieces_of (held_of o ++ held_frame o p ∷ []) ≡ ps ++ p ∷ []
piece-last o ps p is rise below small fits = grind (arith, pieces-held o (ps ++ p ∷ []) (rise-last 0 ps p rise below (omega arith)) (all-append (λ (q : Piece). q.number < most_frames) ps (p ∷ []) small (fits, tt)), reverse-append ps (p ∷ []), carried-past o ps p.number rise below, pieces_of-same, carried-append)

-- ---- the pieces of a list, taken in turn

take_next : (ps : List Piece) (i : ℕ) (p : Piece) → i < length ps → p ≡ get_or ps i p → take (i + 1) ps ≡ take i ps ++ p ∷ []
take_next ps i p lt at = take_more ps i p lt ∙ ap (λ q. take i ps ++ q ∷ []) (sym at)

-- an empty slot for a number that all pieces are below
pub slot-past : (v : OpenGroup) (g : Group) (key : Key) (n : ℕ) → group_in key v ≡ g → Rise number_of 0 g.pieces → AllByRecursion (λ (q : Piece). q.number < n) g.pieces → n < most_frames → slot_of v n ≡ None
slot-past v g key n is rise below fits = grind (arith, carried-slots key v n fits, carried-past g g.pieces n rise below)

module _ (ps : List Piece) (i least : ℕ) (p : Piece) (lt : i < length ps) (at : p ≡ get_or ps i p) (holds : piece_holds least p ≡ true) where
  above : least ≤ p.number
  above = leb-true least p.number (and_parts _ _ holds).0

  fits : p.number < most_frames
  fits = ltb-true p.number most_frames (and_parts _ _ (and_parts _ _ holds).1).0

  pub below-next : AllByRecursion (λ (q : Piece). q.number < least) (take i ps) → AllByRecursion (λ (q : Piece). q.number < p.number) (take i ps)
  below-next below = all-map (λ (q : Piece). q.number < least) (λ (q : Piece). q.number < p.number) (take i ps) (λ q l. omega (arith, l, above)) below

  pub left-next : pieces_rise least (drop i ps) ≡ pieces_rise 0 ps → pieces_rise (p.number + 1) (drop (i + 1) ps) ≡ pieces_rise 0 ps
  unfolding pieces_rise
  left-next left = grind (arith, drop_more)

  pub rise-next : Rise number_of 0 (take i ps) → AllByRecursion (λ (q : Piece). q.number < least) (take i ps) → Rise number_of 0 (take (i + 1) ps)
  rise-next rise below = subst (Rise number_of 0) (sym (take_next ps i p lt at)) (rise-last 0 (take i ps) p rise (below-next below) (omega arith))

  pub all-next : AllByRecursion (λ (q : Piece). q.number < least) (take i ps) → AllByRecursion (λ (q : Piece). q.number < p.number + 1) (take (i + 1) ps)
  all-next below = grind (arith, all-map, take_next, all-append, common_steps)

  pub parts-next : AllByRecursion IsPiece (take i ps) → IsPiece p → AllByRecursion IsPiece (take (i + 1) ps)
  parts-next parts one = subst (AllByRecursion IsPiece) (sym (take_next ps i p lt at)) (all-append IsPiece (take i ps) (p ∷ []) parts (one, tt))

  -- the group with the next piece
  pub kept-next : (o q : Group) (r : Piece) (first : ℕ) (key : Key) → r ≡ p → o ≡ record { first = first; key = key; pieces = take i ps } → q ≡ record o { pieces = pieces_of (held_of o ++ held_frame o r ∷ []) }
      → Rise number_of 0 (take i ps) → AllByRecursion (λ (x : Piece). x.number < least) (take i ps) → q ≡ record { first = first; key = key; pieces = take (i + 1) ps }
  kept-next o q r first key same is taken rise below = grind (arith, all-map, piece-last, take_next)

pub all-taken : (ps : List Piece) (i least : ℕ) → length ps ≤ i → pieces_rise least (drop i ps) ≡ pieces_rise 0 ps → pieces_rise 0 ps ≡ true
unfolding pieces_rise
all-taken ps i least end left = sym left ∙ ap (pieces_rise least) (drop_all i ps end)

-- ---- a group that is read

module _ (kind : ℕ → Option Kind) (g : Group) where
  pub pieces-refused : pieces_rise 0 g.pieces ≡ false → group_holds kind g ≡ false
  unfolding group_holds
  pieces-refused bad = (λ j. key_holds kind g.key && (is_some_list g.pieces && (bad j && not (complete (held_of g))))) ∙ and_right (key_holds kind g.key) _ (and-false (is_some_list g.pieces))

  pub complete-refused : complete (held_of g) ≡ true → group_holds kind g ≡ false
  unfolding group_holds
  complete-refused done = (λ j. key_holds kind g.key && (is_some_list g.pieces && (pieces_rise 0 g.pieces && not (done j)))) ∙ and_right (key_holds kind g.key) _ (and_right (is_some_list g.pieces) _ (and-false (pieces_rise 0 g.pieces)))

  pub group-taken : key_holds kind g.key ≡ true → is_some_list g.pieces ≡ true → pieces_rise 0 g.pieces ≡ true → complete (held_of g) ≡ false → group_holds kind g ≡ true
  unfolding group_holds
  group-taken key some rise left = λ j. key j && (some j && (rise j && not (left j)))
