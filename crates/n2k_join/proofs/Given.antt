-- The result of the last line of a log; earlier lines keep theirs.
use Rattle.std.proofs.Common.{◌≡◌, ◌≤◌, ◌<◌, ℕ, Bool, true, false, cond, ◌&&◌, List, [], ◌∷◌, ◌++◌, length, refl, ap, ◌∙◌, arith, Option, Some, None, option_map, option_and_then, find}
use Rattle.std.specs.List.{last_or, AllByRecursion}
use Rattle.std.proofs.lemmas.Bool.{eqb-true, ne_eqb, or_parts}
use Rattle.n2k_join.specs.Frames.{Key, same_key, Frame, of_key}
use Rattle.n2k_join.specs.Groups.{EndTest, complete, cut, first, last_line}
use Rattle.n2k_join.specs.Messages.{Keyed, message_of, is_done_at, gathered_by, gathered}
use Rattle.n2k_join.proofs.Cuts.{next, so_far, grown, cut-push, last-cut, cut-all, cut-nonempty}
use Rattle.n2k_join.proofs.Keys.{same_key-refl, of_key-same, of_key-other, of_key-keeps}
use Rattle.n2k_join.proofs.Opened.{IsLog, none_at, at_last, at_line}
use Rattle.n2k_join.proofs.Rising.{find-passes, all-map, all-zip}
use Rattle.std.proofs.Math.Bool.{and-false}

-- a group of lines up to n: not empty, and each of its lines is at most n
pub record IsUpTo (n : ℕ) (g : List Frame) : Type 0 where
  pub nonempty : 0 < length g
  pub lines : AllByRecursion (λ (f : Frame). f.line ≤ n) g

pub first-le : (n : ℕ) (g : List Frame) → IsUpTo n g → first g ≤ n
first-le n [] up = omega arith
first-le n (f ∷ g) up = up.lines.0

last_line-all : (n : ℕ) (g : List Frame) → AllByRecursion (λ (f : Frame). f.line ≤ n) g → last_line g ≤ n
last_line-all n [] all = omega arith
last_line-all n (f ∷ []) all = all.0
last_line-all n (f ∷ h ∷ g) all = last_line-all n (h ∷ g) all.1

last_line-push : (g : List Frame) (x : Frame) → last_line (g ++ x ∷ []) ≡ x.line
last_line-push [] x = refl
last_line-push (f ∷ []) x = refl
last_line-push (f ∷ h ∷ g) x = last_line-push (h ∷ g) x

done-not : (i : ℕ) (g : List Frame) → (last_line g ≡ i → ⊥) → is_done_at i g ≡ false
done-not i g other = ap (λ b. complete g && b) (ne_eqb (last_line g) i other) ∙ and-false (complete g)

done-here : (g : List Frame) (x : Frame) → is_done_at x.line (g ++ x ∷ []) ≡ complete (g ++ x ∷ [])
done-here g x = grind (arith, last_line-push)

-- the message of a group, if there is one
pub message_by : (x : Frame) (b : Bool) (g : List Frame) → option_map (message_of x) (cond b (Some g) None) ≡ cond b (Some (message_of x g)) None
message_by x b g = grind arith

module _ (ends : EndTest) where
  -- the group that the frame completes
  abbrev pub completed : Option (List Frame) → Frame → Option (List Frame)
  completed s x = cond (complete (next ends s x)) (Some (next ends s x)) None

  found_alone : (x : Frame) → find (is_done_at x.line) ((x ∷ []) ∷ []) ≡ cond (complete (x ∷ [])) (Some (x ∷ [])) None
  found_alone x = ap (λ b. cond b (Some (x ∷ [])) None) (done-here [] x)

  found_last : (gs : List (List Frame)) (x : Frame) → AllByRecursion (λ g. is_done_at x.line g ≡ false) gs → find (is_done_at x.line) (grown ends gs x) ≡ completed (last_or None gs) x
  found_last [] x all = found_alone x
  found_last (g ∷ []) x all = grind (arith, done-here)
  found_last (g ∷ h ∷ gs) x all = ap (λ b. cond b (Some g) (find (is_done_at x.line) (grown ends (h ∷ gs) x))) all.0 ∙ found_last (h ∷ gs) x all.1

  found_stays : (i : ℕ) (gs : List (List Frame)) (x : Frame) → (x.line ≡ i → ⊥) → find (is_done_at i) (grown ends gs x) ≡ find (is_done_at i) gs
  found_stays i [] x other = ap (λ b. cond b (Some (x ∷ [])) None) (done-not i (x ∷ []) other)
  found_stays i (g ∷ []) x other = grind (arith, done-not, last_line-push, or_parts)
  found_stays i (g ∷ h ∷ gs) x other = ap (λ o. cond (is_done_at i g) (Some g) o) (found_stays i (h ∷ gs) x other)

  -- the groups of frames of lines up to n
  groups-up_to : (n : ℕ) (fs : List Frame) → AllByRecursion (λ (f : Frame). f.line ≤ n) fs → AllByRecursion (IsUpTo n) (cut ends fs)
  groups-up_to n fs all =
      all-map _ (IsUpTo n) (cut ends fs) (λ g h. record { nonempty = h.0; lines = h.1 })
      (all-zip (λ g. 0 < length g) (AllByRecursion (λ (f : Frame). f.line ≤ n)) (cut ends fs)
      (cut-nonempty ends fs)
      (cut-all ends (λ (f : Frame). f.line ≤ n) fs all))

  pub up_to : (n : ℕ) (k : Key) (fs : List Frame) → IsLog n fs → AllByRecursion (IsUpTo n) (cut ends (of_key k fs))
  up_to n k fs log = grind (arith, groups-up_to, all-map, of_key-keeps)

  -- the groups of a key with a frame more of it, and with one of another
  pub cut_of_same : (k : Key) (fs : List Frame) (x : Frame) → same_key k x.key ≡ true → cut ends (of_key k (fs ++ x ∷ [])) ≡ grown ends (cut ends (of_key k fs)) x
  cut_of_same k fs x e = ap (cut ends) (of_key-same k fs x e) ∙ cut-push ends (of_key k fs) x

  pub cut_of_other : (k : Key) (fs : List Frame) (x : Frame) → same_key k x.key ≡ false → cut ends (of_key k (fs ++ x ∷ [])) ≡ cut ends (of_key k fs)
  cut_of_other k fs x e = ap (cut ends) (of_key-other k fs x e)

  -- the message of a group that the frame completes
  abbrev pub keyed : Frame → List Frame → Keyed
  keyed x g = record { key = x.key; message = message_of x g }

  -- The last line gives the message of the group so far with its frame, if that is complete.
  pub gathered-last : (n : ℕ) (fs : List Frame) (x : Frame) → IsLog n fs → n < x.line → gathered ends (fs ++ x ∷ []) x.line ≡ option_map (keyed x) (completed (so_far ends (of_key x.key fs)) x)
  unfolding gathered
  gathered-last n fs x log l = grind (arith, at_last, cut_of_same, same_key-refl, found_last, all-map, last_line-all, up_to, last-cut)

  -- a line without a frame gives none
  pub gathered-none : (n i : ℕ) (fs : List Frame) → IsLog n fs → n < i → gathered ends fs i ≡ None
  unfolding gathered
  gathered-none n i fs log l = ap (option_and_then (gathered_by ends fs)) (none_at n i fs log l)

  -- ---- earlier lines keep their results

  pub gathered-stays : (fs : List Frame) (x : Frame) (i : ℕ) → (x.line ≡ i → ⊥) → gathered ends (fs ++ x ∷ []) i ≡ gathered ends fs i
  unfolding gathered
  gathered-stays fs x i other = grind (arith, at_line, cut_of_same, found_stays, cut_of_other, eqb-true, find-passes)
