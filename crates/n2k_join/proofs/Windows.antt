-- The open groups under a window: groups whose window has ended may be removed before the next frame is taken.
use Rattle.std.proofs.Common.{◌≡◌, ◌<◌, ◌+◌, ℕ, Bool, true, false, cond, List, [], ◌∷◌, ◌++◌, refl, sym, ap, ◌∙◌, arith, Option, Some, None, option_to_list, filter, filter_map, ltb-true, ltb-false, lt-ltb}
use Rattle.std.specs.List.{AllByRecursion}
use Rattle.std.proofs.lemmas.List.Elements.{filter-append, filter_passes, recursion_from_All}
use Rattle.std.proofs.lemmas.Option.{none-some}
use Rattle.n2k_join.specs.Frames.{Frame}
use Rattle.n2k_join.specs.Groups.{EndTest, misfits, within}
use Rattle.n2k_join.specs.Open.{Group, open_groups, is_waiting, waiting, open_within, ended}
use Rattle.n2k_join.specs.State.{held_of, Rise, IsOpen, AreApart, AreOpen}
use Rattle.n2k_join.specs.Inner.Stored.{rejects}
use Rattle.n2k_join.proofs.Advanced.{with_frame, taken, started, of_the_key, opened, advanced}
use Rattle.n2k_join.proofs.Cuts.{within-ends, has-from}
use Rattle.n2k_join.proofs.Held.{first-held}
use Rattle.n2k_join.proofs.Keys.{same_key-true}
use Rattle.n2k_join.proofs.Opened.{IsLog, open_groups-push, open_groups-none}
use Rattle.n2k_join.proofs.Resumed.{open_groups-open, first_of}
use Rattle.n2k_join.proofs.Rising.{find-none, all-map, rise-filter}
use Rattle.n2k_join.specs.Window.{Window}
use Rattle.std.proofs.Math.Bool.{or-false}

-- ---- a part of some groups that can be open can be open

pub all-filter : {X : Type 0} (P : X → Type 0) (t : X → Bool) (xs : List X) → AllByRecursion P xs → AllByRecursion P (filter t xs)
all-filter P t [] a = tt
all-filter P t (x ∷ xs) a = elim (t x) as (λ b. AllByRecursion P (cond b (x ∷ filter t xs) (filter t xs))) [ true ↦ (a.0, all-filter P t xs a.1) | false ↦ all-filter P t xs a.1 ]

-- all that are left pass
pub all-passed : {X : Type 0} (t : X → Bool) (xs : List X) → AllByRecursion (λ x. t x ≡ true) (filter t xs)
all-passed t xs = recursion_from_All (λ x. t x ≡ true) (filter t xs) (filter_passes t xs)

-- if all items pass, all remain
pub filter-passed : {X : Type 0} (t : X → Bool) (xs : List X) → AllByRecursion (λ x. t x ≡ true) xs → filter t xs ≡ xs
filter-passed t [] all = refl
filter-passed t (x ∷ xs) all = ap (λ b. cond b (x ∷ filter t xs) (filter t xs)) all.0 ∙ ap (λ ys. x ∷ ys) (filter-passed t xs all.1)

apart-filter : (t : Group → Bool) (gs : List Group) → AreApart gs → AreApart (filter t gs)
apart-filter t [] a = tt
apart-filter t (g ∷ gs) a = grind (arith, apart-filter t gs a.1, all-filter)

pub open-filter : (n : ℕ) (t : Group → Bool) (gs : List Group) → AreOpen n gs → AreOpen n (filter t gs)
open-filter n t gs are = grind (arith, all-filter, rise-filter, apart-filter)

pub open-waiting : (w : Window) (line n : ℕ) (gs : List Group) → AreOpen n gs → AreOpen n (waiting w line gs)
unfolding waiting
open-waiting w line n gs are = open-filter n (is_waiting w line) gs are

-- ---- groups whose window has ended

-- a group that waits at a line waited at earlier lines
pub waits-before : (w : Window) (line : ℕ) (g : Group) → is_waiting w (line + 1) g ≡ true → is_waiting w line g ≡ true
waits-before w line g e = let l : line + 1 < g.first + w.lines = ltb-true _ _ e in lt-ltb line (g.first + w.lines) (omega (arith, l))

pub waiting-later : (w : Window) (n : ℕ) (gs : List Group) → waiting w (n + 1) (waiting w n gs) ≡ waiting w (n + 1) gs
unfolding waiting
waiting-later w n [] = refl
waiting-later w n (g ∷ gs) = grind (arith, waiting-later w n gs, ltb-true, ltb-false)

-- groups that begin later than one that waits wait
pub later-wait : (w : Window) (line least : ℕ) (gs : List Group) → Rise (λ (g : Group). g.first) least gs → line < least + w.lines → ended w line gs ≡ []
unfolding ended
later-wait w line least [] rise l = refl
later-wait w line least (g ∷ gs) rise l = grind (arith, later-wait w line (g.first + 1) gs rise.1 (omega (arith, rise.0, l)))

-- groups that all wait
pub waiting-all : (w : Window) (line : ℕ) (gs : List Group) → AllByRecursion (λ (g : Group). is_waiting w line g ≡ true) gs → waiting w line gs ≡ gs
unfolding waiting
waiting-all w line gs all = filter-passed (is_waiting w line) gs all

pub all-waiting : (w : Window) (line : ℕ) (gs : List Group) → AllByRecursion (λ (g : Group). is_waiting w line g ≡ true) (waiting w line gs)
unfolding waiting
all-waiting w line gs = all-passed (is_waiting w line) gs

-- ---- a frame's step and the window

-- a group that remains open keeps its first line
taken-first : (ends : EndTest) (x : Frame) (g h : Group) → taken ends x g ≡ Some h → h.first ≡ g.first
taken-first ends x g h e = grind (arith, with_frame, none-some, first_of)

waiting-taken : (ends : EndTest) (w : Window) (line : ℕ) (x : Frame) (gs : List Group) → filter (is_waiting w line) (filter_map (taken ends x) gs) ≡ filter_map (taken ends x) (filter (is_waiting w line) gs)
waiting-taken ends w line x [] = refl
waiting-taken ends w line x (g ∷ gs) = grind (arith, waiting-taken ends w line x gs, taken-first)

-- a frame at the line at which a group's window has ended ends it
pub ended-ends : (w : Window) (x : Frame) (g : Group) → IsOpen g → is_waiting w x.line g ≡ false → within w (held_of g) x ≡ true
ended-ends w x g is e = grind (arith, first-held)

-- the window ends a waiting group of an earlier line if the frame's number is in it
pub waits-ends : (w : Window) (x : Frame) (g : Group) → IsOpen g → is_waiting w x.line g ≡ true → within w (held_of g) x ≡ misfits w (held_of g) x
waits-ends w x g is e = grind (arith, first-held)

-- the code's test of a group of an earlier line
pub misfits-rejects : (w : Window) (x : Frame) (g : Group) → IsOpen g → g.first < x.line → misfits w (held_of g) x ≡ rejects w.in_order x.number g
misfits-rejects w x g is l = grind (arith, first-held, lt-ltb, has-from, or-false)

-- A function that treats a group whose window has ended as no group finds the same value among the waiting groups.
pub key-waiting : {X : Type 0} (w : Window) (x : Frame) (F : Option Group → X)
    → ((g : Group) → IsOpen g → is_waiting w x.line g ≡ false → F (Some g) ≡ F None)
    → (gs : List Group) → AllByRecursion IsOpen gs → AreApart gs
    → F (of_the_key x.key gs) ≡ F (of_the_key x.key (waiting w x.line gs))
unfolding waiting
key-waiting w x F as_none [] each apart = refl
key-waiting w x F as_none (g ∷ gs) each apart = grind (arith, key-waiting w x F as_none gs each.1 apart.1, all-map, same_key-true, find-none)

opened-waiting : (w : Window) (x : Frame) (gs : List Group) → AllByRecursion IsOpen gs → AreApart gs
    → opened (within w) x (of_the_key x.key gs) ≡ opened (within w) x (of_the_key x.key (waiting w x.line gs))
opened-waiting w x = grind (arith, key-waiting w x (opened (within w) x) (λ g is e. ap (λ t. cond t (started x) None) (ended-ends w x g is e)))

-- a group that a frame opens waits
begun-waits : (ends : EndTest) (w : Window) (x : Frame) (o : Option Group) → 0 < w.lines → filter (is_waiting w x.line) (option_to_list (opened ends x o)) ≡ option_to_list (opened ends x o)
begun-waits ends w x o some = grind (arith, lt-ltb)

-- First the groups whose window ends at the frame's line are removed, then the frame is taken.
pub advanced-waiting : (w : Window) (x : Frame) (gs : List Group) → 0 < w.lines → AllByRecursion IsOpen gs → AreApart gs → waiting w x.line (advanced (within w) gs x) ≡ advanced (within w) (waiting w x.line gs) x
unfolding advanced waiting
advanced-waiting w x gs some each apart = grind (arith, filter-append, waiting-taken, begun-waits, opened-waiting)

-- ---- one line more

module _ (w : Window) (n : ℕ) (some : 0 < w.lines) where
  -- a log with a frame at its next line
  pub open_within-push : (fs : List Frame) (x : Frame) → IsLog n fs → x.line ≡ n + 1 → open_within w (n + 1) (fs ++ x ∷ []) ≡ advanced (within w) (waiting w (n + 1) (open_within w n fs)) x
  open_within-push fs x log at = grind (arith, open_groups-open, within-ends, open_groups-push, advanced-waiting, waiting-later)

  -- a log without a frame at its next line
  pub open_within-none : (fs : List Frame) → IsLog n fs → open_within w (n + 1) fs ≡ waiting w (n + 1) (open_within w n fs)
  open_within-none fs log = ap (waiting w (n + 1)) (open_groups-none (within w) (within-ends w some) n fs log) ∙ sym (waiting-later w n (open_groups (within w) n fs))

  -- the open groups of a log can be open
  pub open_within-open : (fs : List Frame) → IsLog n fs → AreOpen n (open_within w n fs)
  open_within-open fs log = open-waiting w n n (open_groups (within w) n fs) (open_groups-open (within w) (within-ends w some) n fs log)
