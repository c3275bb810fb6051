-- The open groups after a frame, as the code makes them: by the place of the group of its key.
use Rattle.std.proofs.Common.{◌≡◌, ℕ, ◌<◌, Bool, false, cond, List, [], ◌∷◌, ◌++◌, Result, OnErr, Some, None, option_to_list, filter_map, find, reverse, length-append, refl, ap, ◌∙◌, arith}
use Rattle.std.specs.List.{AllByRecursion, list_any}
use Rattle.n2k_join.specs.Messages.{broken_of, as_broken}
use Rattle.n2k_join.specs.Frames.{Key, same_key, Frame, most_frames}
use Rattle.n2k_join.specs.Groups.{complete, has_number, data_of}
use Rattle.n2k_join.specs.Open.{Piece, Group, pieces_of, group_of}
use Rattle.n2k_join.specs.State.{held_frame, held_of, IsOpen}
use Rattle.n2k_join.specs.Inner.Stored.{rejects, with_frame, taken, started, message_if}
use Rattle.n2k_join.proofs.Carried.{carried-append, has_twice-push, data_of-same, pieces_of-same}
use Rattle.n2k_join.proofs.Cuts.{has-from}
use Rattle.n2k_join.proofs.Held.{carried-kept, has_twice-held, length-held, all-held, all-reverse, first-held}
use Rattle.n2k_join.proofs.Opened.{IsFine, first-push, complete-kept}
use Rattle.n2k_join.proofs.Rising.{all-append, passes_none}
use Rattle.std.proofs.lemmas.List.Elements.{All-from_recursion}
use Rattle.std.proofs.lemmas.List.Folds.{list_any_none}

-- ---- one group

-- a frame's number and bytes
abbrev pub piece_in : Frame → Piece
piece_in x = record { number = x.number; bytes = x.bytes }

-- the held frames of an open group
pub fine-held : (o : Group) → IsOpen o → IsFine (held_of o)
fine-held o fit = grind (arith, all-held (λ (f : Frame). f.number < most_frames) (λ (p : Piece). p.number < most_frames) o (λ p l. l) (reverse o.pieces) (all-reverse (λ (p : Piece). p.number < most_frames) o.pieces fit.numbers), has_twice-held o 0 o.pieces fit.rise, length-held o o.pieces)

pub fine-push : (g : List Frame) (x : Frame) → IsFine g → has_number x.number g ≡ false → x.number < most_frames → IsFine (g ++ x ∷ [])
fine-push g x fine missing small = grind (arith, all-append, has_twice-push, length-append)

pub fine-one : (x : Frame) → x.number < most_frames → IsFine (x ∷ [])
fine-one x small = record { numbers = (small, tt); once = refl; nonempty = omega arith }

-- the held frames of a group have its data
pub data_of-group_of : (k : Key) (g : List Frame) → IsFine g → data_of (held_of (group_of k g)) ≡ data_of g
data_of-group_of k g fine = data_of-same (held_of (group_of k g)) g (carried-kept k g fine.numbers)

pub with_frame-group_of : (o : Group) (x : Frame) → IsOpen o → with_frame o x ≡ group_of o.key (held_of o ++ x ∷ [])
with_frame-group_of o x fit = grind (arith, first-push, fine-held, first-held)

-- a fit group with one more piece is the group with the frame
pub with_piece : (o : Group) (x : Frame) → record o { pieces = pieces_of (held_of o ++ held_frame o (piece_in x) ∷ []) } ≡ with_frame o x
with_piece o x = grind (arith, carried-append, pieces_of-same)

module _ (o : Group) (x : Frame) (fit : IsOpen o) (missing : has_number x.number (held_of o) ≡ false) (small : x.number < most_frames) where
  pub complete-with_frame : complete (held_of (with_frame o x)) ≡ complete (held_of o ++ x ∷ [])
  complete-with_frame = ap (λ (g : Group). complete (held_of g)) (with_frame-group_of o x fit) ∙ complete-kept o.key (held_of o ++ x ∷ []) (fine-push (held_of o) x (fine-held o fit) missing small)

  pub data_of-with_frame : data_of (held_of (with_frame o x)) ≡ data_of (held_of o ++ x ∷ [])
  data_of-with_frame = ap (λ (g : Group). data_of (held_of g)) (with_frame-group_of o x fit) ∙ data_of-group_of o.key (held_of o ++ x ∷ []) (fine-push (held_of o) x (fine-held o fit) missing small)

-- ---- the group of a key among groups

-- groups of other keys are unchanged
pub taken-others : (order : Bool) (x : Frame) (gs : List Group) → AllByRecursion (λ (g : Group). same_key x.key g.key ≡ false) gs → filter_map (taken order x) gs ≡ gs
taken-others order x [] all = refl
taken-others order x (g ∷ gs) all = grind (arith, taken-others order x gs all.1)

-- a group that has a place for a number lacks it
pub rejects-missing : (order : Bool) (n : ℕ) (o : Group) → rejects order n o ≡ false → has_number n (held_of o) ≡ false
rejects-missing order n o e = grind (arith, has-from)

-- the report of an open group
pub broken-held : (o : Group) (key : Key) → IsOpen o → key ≡ o.key → as_broken o ≡ broken_of key (held_of o)
broken-held o key fit of = grind (arith, first-held)

-- a group that a frame begins: its message, and its open group
module _ (x : Frame) (g : Group) (small : x.number < most_frames) (is : g ≡ group_of x.key (x ∷ [])) where
  pub complete-begun : complete (held_of g) ≡ complete (x ∷ [])
  complete-begun = ap (λ (h : Group). complete (held_of h)) is ∙ complete-kept x.key (x ∷ []) (fine-one x small)

  pub message-begun : cond (complete (held_of g)) (Some (record { stamp = x.stamp; id = x.id; payload = data_of (held_of g) })) None ≡ message_if x (x ∷ [])
  message-begun =
      ap (λ b. cond b (Some (record { stamp = x.stamp; id = x.id; payload = data_of (held_of g) })) None) complete-begun
      ∙ ap (λ d. cond (complete (x ∷ [])) (Some (record { stamp = x.stamp; id = x.id; payload = d })) None) (ap (λ (h : Group). data_of (held_of h)) is ∙ data_of-group_of x.key (x ∷ []) (fine-one x small))

  pub groups-begun : cond (complete (held_of g)) [] (g ∷ []) ≡ option_to_list (started x)
  groups-begun = grind (arith, complete-begun)

-- if no group of a key is found, no group has it
pub none-listed : (P : Group → Bool) (gs : List Group) → find P gs ≡ None → list_any P gs ≡ false
none-listed P gs none = list_any_none P gs (All-from_recursion (λ (g : Group). P g ≡ false) gs (passes_none P gs none))

-- a fact, also on a refusal
pub on_err : {T E : Type 0} (r : Result T E) (P : Type 0) → P → OnErr r P
on_err r P p = grind arith
