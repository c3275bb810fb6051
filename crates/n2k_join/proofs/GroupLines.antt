-- Groups whose frames' lines rise: exactly one is done at its last line, and one begins at its first.
use Rattle.std.proofs.Common.{◌≡◌, ℕ, ◌+◌, ◌<◌, ◌≤◌, true, false, List, [], ◌∷◌, ◌++◌, length, refl, subst, sym, arith, Some, ap, find}
use Rattle.std.specs.List.{AllByRecursion}
use Rattle.std.proofs.lemmas.Bool.{eq-eqb, ne_eqb, and_right}
use Rattle.n2k_join.specs.Frames.{Frame}
use Rattle.n2k_join.specs.Groups.{complete, first, last_line}
use Rattle.n2k_join.specs.Messages.{is_done_at}
use Rattle.n2k_join.specs.Scattered.{all_frames}
use Rattle.n2k_join.proofs.Lines.{RiseFrom, line_of}
use Rattle.n2k_join.proofs.Rising.{all-joined, rise-least, all_with}

-- a group has a frame
abbrev pub IsGroup : List Frame → Type 0
IsGroup g = 0 < length g

-- the frames after a group have later lines than its last
pub rise-after : (n : ℕ) (g rest : List Frame) → IsGroup g → RiseFrom n (g ++ rest) → RiseFrom (last_line g + 1) rest
rise-after n [] rest some rise = absurd (omega (arith, some))
rise-after n (f ∷ []) rest some rise = rise.1
rise-after n (f ∷ g ∷ fs) rest some rise = rise-after (f.line + 1) (g ∷ fs) rest (omega arith) rise.1

-- a group ends with a frame that has each property of all its frames
pub record LastFrame (P : Frame → Type 0) (g : List Frame) : Type 0 where
  pub before : List Frame
  pub frame : Frame
  pub is : g ≡ before ++ frame ∷ []
  pub at : last_line g ≡ frame.line
  pub holds : P frame

pub last_frame : (P : Frame → Type 0) (g : List Frame) → IsGroup g → AllByRecursion P g → LastFrame P g
last_frame P [] some each = absurd (omega (arith, some))
last_frame P (f ∷ []) some each = record { before = []; frame = f; is = refl; at = refl; holds = each.0 }
last_frame P (f ∷ g ∷ fs) some each =
    let end = last_frame P (g ∷ fs) (omega arith) each.1 in
    record { before = f ∷ end.before; frame = end.frame; is = ap (λ t. f ∷ t) end.is; at = end.at; holds = end.holds }

pub first_above : (n : ℕ) (g : List Frame) → IsGroup g → AllByRecursion (λ (f : Frame). n ≤ f.line) g → n ≤ first g
first_above n [] some each = absurd (omega (arith, some))
first_above n (f ∷ g) some each = each.0

pub lasts_above : (n : ℕ) (gs : List (List Frame)) → AllByRecursion IsGroup gs → RiseFrom n (all_frames gs) → AllByRecursion (λ g. n ≤ last_line g) gs
lasts_above n gs some rise =
    all_with IsGroup (AllByRecursion (λ (f : Frame). n ≤ f.line)) (λ g. n ≤ last_line g) (λ g here each.
    let last = last_frame (λ (f : Frame). n ≤ f.line) g here each in
    subst (λ l. n ≤ l) (sym last.at) last.holds)
    gs some (all-joined _ gs (rise-least line_of n (all_frames gs) rise))

-- a complete group is the one that is done at its last line
abbrev pub IsDone : List (List Frame) → List Frame → Type 0
IsDone gs g = complete g ≡ true → find (is_done_at (last_line g)) gs ≡ Some g

pub done_found : (n : ℕ) (gs : List (List Frame)) → AllByRecursion IsGroup gs → RiseFrom n (all_frames gs) → AllByRecursion (IsDone gs) gs
done_found n [] some rise = tt
done_found n (g ∷ gs) some rise =
    let after : RiseFrom (last_line g + 1) (all_frames gs) = rise-after n g (all_frames gs) some.0 rise in (
      (λ whole. rw (whole, eq-eqb (last_line g) (last_line g) refl) refl),
      all_with (λ h. last_line g + 1 ≤ last_line h) (IsDone gs) (IsDone (g ∷ gs))
          (λ h above found whole. rw (ne_eqb (last_line g) (last_line h) (λ same. omega arith), and_right (complete g) false refl) (found whole))
          gs (lasts_above (last_line g + 1) gs some.1 after) (done_found (last_line g + 1) gs some.1 after),
    )
