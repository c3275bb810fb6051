-- The held frames of an open group: they carry what its frames carried, and they are one group.
use Rattle.std.proofs.Common.{◌≡◌, ◌==◌, ◌≤◌, ◌<◌, ◌+◌, ℕ, Bool, true, false, cond, List, [], ◌∷◌, ◌++◌, length, map, reverse, refl, sym, ap, ◌∙◌, arith, Option, Some, None, option_map, is_some}
use mathlib.Core.Path.{fun_ext}
use mathlib.Core.List.{reverse-cons}
use Rattle.std.specs.Option.{option_or}
use Rattle.std.specs.List.{AllByRecursion, range_with_len, filter_map}
use Rattle.std.proofs.lemmas.List.{map-append, length-map, length-reverse}
use Rattle.std.proofs.lemmas.Bool.{eqb-true, or_from, cases_lt}
use Rattle.n2k_join.specs.Frames.{Key, Frame, most_frames}
use Rattle.n2k_join.specs.Groups.{EndTest, complete, carried, has_number, has_twice, first}
use Rattle.n2k_join.specs.Open.{Piece, Group, piece_at, pieces_of, group_of}
use Rattle.n2k_join.specs.State.{held_frame, held_of, Rise, IsOpen}
use Rattle.n2k_join.proofs.Cuts.{next, so_far, so_far-push, IsEnding}
use Rattle.n2k_join.proofs.Carried.{carried-append, option_or_none, has_twice-push, complete-without_zero}
use Rattle.n2k_join.proofs.Rising.{look, look-below, look-range, look-filter_map, rise-range, all-range, filter_map-range, find-none, find-passes, all-map, all-append}

abbrev pub number_of : Piece → ℕ
number_of p = p.number

-- the piece of a number among pieces
abbrev pub piece_in : List Piece → ℕ → Option Piece
piece_in ps n = look (λ (p : Piece). p.number) ps n

abbrev pub bytes_in : List Piece → ℕ → Option (List ℕ)
bytes_in ps n = option_map (λ (p : Piece). p.bytes) (piece_in ps n)

-- pieces as frames of a group
abbrev pub held_frames : Group → List Piece → List Frame
held_frames o ps = map (held_frame o) (reverse ps)

held-cons : (o : Group) (p : Piece) (ps : List Piece) → held_frames o (p ∷ ps) ≡ held_frames o ps ++ held_frame o p ∷ []
held-cons o p ps = ap (map (held_frame o)) (reverse-cons p ps) ∙ map-append (held_frame o) (reverse ps) (p ∷ [])

-- frames made of pieces carry the pieces' bytes
pub carried-held : (o : Group) (least : ℕ) (ps : List Piece) (n : ℕ) → Rise number_of least ps → carried (held_frames o ps) n ≡ bytes_in ps n
carried-held o least [] n r = refl
carried-held o least (p ∷ ps) n r =
    ap (λ fs. carried fs n) (held-cons o p ps) ∙ carried-append (held_frames o ps) (held_frame o p ∷ []) n
    ∙ ap (λ c. option_or c (cond (p.number == n) (Some p.bytes) None)) (carried-held o (p.number + 1) ps n r.1)
    ∙ by (p.number == n) refl
  where
    by : (b : Bool) → (p.number == n) ≡ b → option_or (bytes_in ps n) (cond b (Some p.bytes) None) ≡ option_map (λ (q : Piece). q.bytes) (cond b (Some p) (piece_in ps n))
    by true e =
        let is = eqb-true p.number n e in
        ap (λ q. option_or (option_map (λ (q : Piece). q.bytes) q) (Some p.bytes)) (look-below number_of (p.number + 1) n ps r.1 (omega (arith, is)))
    by false e = option_or_none (bytes_in ps n)

-- each number once
pub has_twice-held : (o : Group) (least : ℕ) (ps : List Piece) → Rise number_of least ps → has_twice (held_frames o ps) ≡ false
has_twice-held o least [] r = refl
has_twice-held o least (p ∷ ps) r = grind (arith, held-cons o p ps, has_twice-push (held_frames o ps) (held_frame o p) (has_twice-held o (p.number + 1) ps r.1), carried-held o (p.number + 1) ps p.number r.1, look-below number_of (p.number + 1) p.number ps r.1 (omega arith))

pub all-held : (P : Frame → Type 0) (Q : Piece → Type 0) (o : Group) → ((p : Piece) → Q p → P (held_frame o p)) → (ps : List Piece) → AllByRecursion Q ps → AllByRecursion P (map (held_frame o) ps)
all-held P Q o each [] all = tt
all-held P Q o each (p ∷ ps) all = (each p all.0, all-held P Q o each ps all.1)

pub all-reverse : {X : Type 0} (P : X → Type 0) (xs : List X) → AllByRecursion P xs → AllByRecursion P (reverse xs)
all-reverse P [] all = tt
all-reverse P (x ∷ xs) all = grind (arith, all-reverse P xs all.1, reverse-cons, all-append)

-- a property of all things holds of the items of a list
pub all-any : {X : Type 0} (P : X → Type 0) → ((x : X) → P x) → (xs : List X) → AllByRecursion P xs
all-any P each [] = tt
all-any P each (x ∷ xs) = (each x, all-any P each xs)

pub length-held : (o : Group) (ps : List Piece) → length (held_frames o ps) ≡ length ps
length-held o ps = length-map (reverse ps) (held_frame o) ∙ length-reverse ps

pub first-held : (o : Group) (ps : List Piece) → 0 < length ps → first (held_frames o ps) ≡ o.first
first-held o ps some = by (reverse ps) (omega (arith, some, length-reverse ps))
  where
    by : (qs : List Piece) → 0 < length qs → first (map (held_frame o) qs) ≡ o.first
    by [] some = absurd (omega (arith, some))
    by (q ∷ qs) some = refl

-- ---- the pieces that a look-up finds

abbrev pub pieces_by : (ℕ → Option (List ℕ)) → List Piece
pieces_by c = filter_map (piece_at c) (range_with_len 0 most_frames)

piece_at-number : (c : ℕ → Option (List ℕ)) (n : ℕ) (p : Piece) → piece_at c n ≡ Some p → p.number ≡ n
piece_at-number c n p e = grind arith

pub pieces_by-rise : (c : ℕ → Option (List ℕ)) → Rise number_of 0 (pieces_by c)
pieces_by-rise c = rise-range number_of (piece_at c) (piece_at-number c) 0 0 most_frames (omega arith)

pieces_by-numbers : (c : ℕ → Option (List ℕ)) → AllByRecursion (λ (p : Piece). p.number < most_frames) (pieces_by c)
pieces_by-numbers c =
    all-range (λ (p : Piece). p.number < most_frames) (piece_at c) 0 most_frames
    (λ i p l u e. let at : p.number ≡ i = piece_at-number c i p e in omega (arith, at))

-- the pieces have the looked-up bytes under valid frame numbers, and none under others
pub bytes_by : (c : ℕ → Option (List ℕ)) (n : ℕ) → n < most_frames → bytes_in (pieces_by c) n ≡ c n
bytes_by c n l = grind (arith, look-filter_map number_of (piece_at c) (piece_at-number c) 0 most_frames n (omega arith) (omega arith))

pub bytes_by-past : (c : ℕ → Option (List ℕ)) (n : ℕ) → most_frames ≤ n → bytes_in (pieces_by c) n ≡ None
bytes_by-past c n l = grind (arith, find-none, all-map, pieces_by-numbers)

-- ---- the pieces of a group

-- frames with numbers of five bits
abbrev pub AreNumbered : List Frame → Type 0
AreNumbered g = AllByRecursion (λ (f : Frame). f.number < most_frames) g

carried-past : (g : List Frame) (n : ℕ) → AreNumbered g → most_frames ≤ n → carried g n ≡ None
carried-past [] n all l = refl
carried-past (f ∷ g) n all l = grind (arith, carried-past g n all.1 l)

pub pieces_of-rise : (g : List Frame) → Rise number_of 0 (pieces_of g)
unfolding pieces_of
pieces_of-rise g = pieces_by-rise (carried g)

pub pieces_of-numbers : (g : List Frame) → AllByRecursion (λ (p : Piece). p.number < most_frames) (pieces_of g)
unfolding pieces_of
pieces_of-numbers g = pieces_by-numbers (carried g)

bytes_in-pieces : (g : List Frame) (n : ℕ) → AreNumbered g → bytes_in (pieces_of g) n ≡ carried g n
unfolding pieces_of
bytes_in-pieces g n all = grind (arith, cases_lt n most_frames, bytes_by, bytes_by-past, carried-past)

-- the held frames of a group carry what the group does
pub carried-kept : (k : Key) (g : List Frame) → AreNumbered g → carried (held_of (group_of k g)) ≡ carried g
carried-kept k g all = fun_ext (λ n. carried-held (group_of k g) 0 (pieces_of g) n (pieces_of-rise g) ∙ bytes_in-pieces g n all)

pub has_twice-kept : (k : Key) (g : List Frame) → has_twice (held_of (group_of k g)) ≡ false
has_twice-kept k g = has_twice-held (group_of k g) 0 (pieces_of g) (pieces_of-rise g)

pub pieces_of-some : (g : List Frame) → AreNumbered g → 0 < length g → 0 < length (pieces_of g)
pieces_of-some [] all some = absurd (omega (arith, some))
pieces_of-some (f ∷ g) all some = by (pieces_of (f ∷ g)) (bytes_in-pieces (f ∷ g) f.number all)
  where
    by : (ps : List Piece) → bytes_in ps f.number ≡ carried (f ∷ g) f.number → 0 < length ps
    by [] e = grind arith
    by (p ∷ ps) e = omega arith

pub first-kept : (k : Key) (g : List Frame) → AreNumbered g → 0 < length g → first (held_of (group_of k g)) ≡ first g
first-kept k g all some = first-held (group_of k g) (pieces_of g) (pieces_of-some g all some)

-- ---- the held frames of a group are one group, which has the same pieces

-- rising pieces are the pieces of the frames that they make
pub pieces-held : (o : Group) (ps : List Piece) → Rise number_of 0 ps
    → AllByRecursion (λ (p : Piece). p.number < most_frames) ps → pieces_of (held_frames o ps) ≡ ps
unfolding pieces_of
pieces-held o ps rise small =
    filter_map-range (piece_at (carried (held_frames o ps))) (piece_in ps) 0 most_frames (λ n l u. same n)
    ∙ look-range number_of 0 most_frames ps rise small
  where
    by : (n : ℕ) (q : Option Piece) → piece_in ps n ≡ q
        → option_map (λ (bytes : List ℕ). record { number = n; bytes = bytes }) (option_map (λ (p : Piece). p.bytes) q) ≡ q
    by n q e = grind (arith, find-passes)

    same : (n : ℕ) → piece_at (carried (held_frames o ps)) n ≡ piece_in ps n
    same n = grind (arith, carried-held o 0 ps n rise, by n (piece_in ps n) refl)

pub group_of-held : (o : Group) → IsOpen o → group_of o.key (held_of o) ≡ o
group_of-held o is = grind (arith, first-held, pieces-held)

module _ (ends : EndTest) (is_ending : IsEnding ends) where
  so_far-pieces : (o : Group) (least : ℕ) (p : Piece) (ps : List Piece) → Rise number_of least (p ∷ ps) → so_far ends (held_frames o (p ∷ ps)) ≡ Some (held_frames o (p ∷ ps))
  unfolding so_far
  so_far-pieces o least p [] r = refl
  so_far-pieces o least p (q ∷ qs) r =
      let before = held_frames o (q ∷ qs) in
      let x = held_frame o p in
      let none_below : (n : ℕ) → n ≤ p.number → has_number n before ≡ false = λ n l. ap is_some (carried-held o (p.number + 1) (q ∷ qs) n r.1) ∙ ap (λ c. is_some (option_map (λ (q : Piece). q.bytes) c)) (look-below number_of (p.number + 1) n (q ∷ qs) r.1 (omega arith)) in
      let not_complete : complete before ≡ false = complete-without_zero before (none_below 0 (omega arith)) in
      let not_ended : ends before x ≡ false = is_ending.own_line before x (first-held o (q ∷ qs) (omega arith)) (none_below p.number (omega arith)) in
      ap (so_far ends) (held-cons o p (q ∷ qs))
      ∙ so_far-push ends before x
      ∙ ap (λ g. Some (next ends g x)) (so_far-pieces o (p.number + 1) q qs r.1)
      ∙ ap (λ b. Some (cond b (x ∷ []) (before ++ x ∷ []))) (or_from _ _ not_complete not_ended)
      ∙ ap Some (sym (held-cons o p (q ∷ qs)))

  pub so_far-held : (o : Group) → IsOpen o → so_far ends (held_of o) ≡ Some (held_of o)
  so_far-held o is = by o.pieces is.nonempty is.rise
    where
      by : (ps : List Piece) → 0 < length ps → Rise number_of 0 ps → so_far ends (held_frames o ps) ≡ Some (held_frames o ps)
      by [] some r = absurd (omega (arith, some))
      by (p ∷ ps) some r = so_far-pieces o 0 p ps r
