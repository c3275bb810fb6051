-- Which groups are broken at the last line of a log; earlier lines keep their broken groups.
use Rattle.std.proofs.Common.{◌≡◌, ◌==◌, ◌<◌, ◌+◌, ℕ, Bool, true, false, cond, not, ◌&&◌, nat_le, List, [], ◌∷◌, ◌++◌, length, refl, sym, ap, ◌∙◌, subst, arith, Option, Some, None, option_map, option_and_then, option_to_list, filter_map, IfSome, append-nil}
use Rattle.std.specs.List.{range_with_len, last_or, AllByRecursion}
use Rattle.std.proofs.lemmas.Bool.{eqb-true, eq-eqb, ne_eqb, or_parts, leb-true, leb-false, and_right}
use Rattle.n2k_join.specs.declared.step.Broken.{Broken}
use Rattle.n2k_join.specs.Frames.{Key, same_key, Frame, of_key, frame_at}
use Rattle.n2k_join.specs.Groups.{closes, within, complete, incomplete, cut, first}
use Rattle.n2k_join.specs.Open.{Group, group_of, where_begun, begun_at, open_groups}
use Rattle.n2k_join.specs.Messages.{broken_of, as_broken, broken_among, broken_by, broken_begun, broken_with}
use Rattle.n2k_join.specs.State.{held_of}
use Rattle.n2k_join.proofs.Cuts.{grown, last-cut, within-ends}
use Rattle.n2k_join.proofs.Given.{IsUpTo, first-le, up_to, cut_of_same, cut_of_other}
use Rattle.n2k_join.proofs.Keys.{same_key-refl, same_key-sym}
use Rattle.n2k_join.proofs.Opened.{IsLog, IsFine, none_at, at_last, at_line, open_at, begun_at-key, so_far-fine, numbers_of_key, ends-kept, first-push}
use Rattle.n2k_join.proofs.Rising.{find-passes, filter_map-range, filter_map-push, filter_map-fused, range-push, last-all}
use Rattle.n2k_join.specs.Window.{Window}

-- ---- the groups of a key

-- whether an incomplete last group is broken at a line without a frame of its key
abbrev ends_at : Window → ℕ → ℕ → List Frame → Bool
ends_at w j line g = not (complete g) && ((first g == j) && (first g + w.lines == line))

-- whether an incomplete last group is broken at the line of the next frame of its key
abbrev ends_by : Window → ℕ → Frame → List Frame → Bool
ends_by w j x g = not (complete g) && ((first g == j) && (within w g x && nat_le x.line (first g + w.lines)))

-- a group, if it passes a test
abbrev last_if : (List Frame → Bool) → Option (List Frame) → Option (List Frame)
last_if t None = None
last_if t (Some g) = cond (t g) (Some g) None

-- a group is broken by the first line of the next group of its key, or before
passed : (w : Window) (j line : ℕ) (g h : List Frame) (gs : List (List Frame)) → first h < line
    → broken_among w j line (g ∷ h ∷ gs) ≡ broken_among w j line (h ∷ gs)
passed w j line g h gs l = grind (arith, ne_eqb)

-- the last group is not broken before its window ends
among-open : (w : Window) (j i : ℕ) (g : List Frame) → i < first g + w.lines → broken_among w j i (g ∷ []) ≡ None
among-open w j i g l = grind arith

-- with no frame of the key at the line
among-last : (w : Window) (n j line : ℕ) (gs : List (List Frame)) → AllByRecursion (IsUpTo n) gs → n < line → broken_among w j line gs ≡ last_if (ends_at w j line) (last_or None gs)
among-last w n j line [] up l = refl
among-last w n j line (g ∷ []) up l = refl
among-last w n j line (g ∷ h ∷ gs) up l = passed w j line g h gs (omega (arith, first-le n h up.1.0, l)) ∙ among-last w n j line (h ∷ gs) up.1 l

-- with one
among-one : (w : Window) (j : ℕ) (g : List Frame) (x : Frame) → 0 < w.lines → 0 < length g → broken_among w j x.line (grown (within w) (g ∷ []) x) ≡ cond (ends_by w j x g) (Some g) None
among-one w j g x some nonempty = grind (arith, among-open, eq-eqb, leb-true, ne_eqb, leb-false, or_parts, first-push, and_right)

among-grown : (w : Window) (n j : ℕ) (gs : List (List Frame)) (x : Frame) → 0 < w.lines → AllByRecursion (IsUpTo n) gs → n < x.line → broken_among w j x.line (grown (within w) gs x) ≡ last_if (ends_by w j x) (last_or None gs)
among-grown w n j [] x some up l = among-open w j x.line (x ∷ []) (omega (arith, some))
among-grown w n j (g ∷ []) x some up l = among-one w j g x some up.0.nonempty
among-grown w n j (g ∷ h ∷ []) x some up l = by (closes (within w) h x) ∙ among-one w j h x some up.1.0.nonempty
  where
    by : (b : Bool) → broken_among w j x.line (g ∷ cond b (h ∷ (x ∷ []) ∷ []) ((h ++ x ∷ []) ∷ [])) ≡ broken_among w j x.line (cond b (h ∷ (x ∷ []) ∷ []) ((h ++ x ∷ []) ∷ []))
    by b = grind (arith, passed, first-le)
among-grown w n j (g ∷ h ∷ k ∷ gs) x some up l = passed w j x.line g h (grown (within w) (k ∷ gs) x) (omega (arith, first-le n h up.1.0, l)) ∙ among-grown w n j (h ∷ k ∷ gs) x some up.1 l

-- the group that a frame begins isn't broken at its line
among-own : (w : Window) (n : ℕ) (gs : List (List Frame)) (x : Frame) → 0 < w.lines → AllByRecursion (IsUpTo n) gs → n < x.line → broken_among w x.line x.line (grown (within w) gs x) ≡ None
among-own w n gs x some up l = grind (arith, among-grown w n x.line gs x some up l, last-all (IsUpTo n) None gs tt up)

-- Earlier lines keep their broken groups.
among-stays_one : (w : Window) (j i : ℕ) (g : List Frame) (x : Frame) → 0 < w.lines → 0 < length g → i < x.line → broken_among w j i (grown (within w) (g ∷ []) x) ≡ broken_among w j i (g ∷ [])
among-stays_one w j i g x some nonempty l = grind (arith, among-open, eq-eqb, eqb-true, or_parts, leb-false, first-push)

among-stays : (w : Window) (n j i : ℕ) (gs : List (List Frame)) (x : Frame) → 0 < w.lines → AllByRecursion (IsUpTo n) gs → i < x.line → broken_among w j i (grown (within w) gs x) ≡ broken_among w j i gs
among-stays w n j i [] x some up l = among-open w j i (x ∷ []) (omega (arith, l))
among-stays w n j i (g ∷ []) x some up l = among-stays_one w j i g x some up.0.nonempty l
among-stays w n j i (g ∷ h ∷ []) x some up l = grind (arith, among-stays_one, first-push)
among-stays w n j i (g ∷ h ∷ k ∷ gs) x some up l = grind (arith, among-stays w n j i (h ∷ k ∷ gs) x some up.1 l)

-- ---- the groups of a log

module _ (w : Window) (some : 0 < w.lines) where
  begun-stays : (n : ℕ) (fs : List Frame) (x : Frame) (i j : ℕ) → IsLog n fs → i < x.line → (x.line ≡ j → ⊥) → broken_begun w (fs ++ x ∷ []) i j ≡ broken_begun w fs i j
  begun-stays n fs x i j log l other = grind (arith, at_line, cut_of_same, among-stays, up_to, cut_of_other)

  -- with a frame more each earlier line has the same groups broken at it
  pub broken-stays : (n : ℕ) (fs : List Frame) (x : Frame) (i : ℕ) → IsLog n fs → i < x.line → broken_with w (fs ++ x ∷ []) i ≡ broken_with w fs i
  unfolding broken_with
  broken-stays n fs x i log l = filter_map-range (broken_begun w (fs ++ x ∷ []) i) (broken_begun w fs i) 1 i (λ j a b. begun-stays n fs x i j log l (λ e. omega (arith, l, b, e)))

  -- ---- the groups that are broken at the line after a log

  -- whether an open group is broken: with no frame at the line, and with one
  abbrev pub runs_out : ℕ → Group → Bool
  runs_out line o = o.first + w.lines == line

  abbrev pub breaks : Frame → Group → Bool
  breaks x o = cond (same_key x.key o.key) (within w (held_of o) x && nat_le x.line (o.first + w.lines)) (o.first + w.lines == x.line)

  abbrev pub told_if : (Group → Bool) → Group → Option Broken
  told_if t o = cond (t o) (Some (as_broken o)) None

  -- the last group of a key, if it begins at a line and passes
  told_at : (t : List Frame → Bool) (u : Group → Bool) (k : Key) (j : ℕ) → (o : Option (List Frame)) → ((g : List Frame) → o ≡ Some g → complete g ≡ false → first g ≡ j → t g ≡ u (group_of k g))
      → option_map (broken_of k) (last_if (λ g. not (complete g) && ((first g == j) && t g)) o) ≡ option_and_then (told_if u) (option_and_then (where_begun j k) (option_and_then incomplete o))
  told_at t u k j o same = grind arith

  begun-none : (n line : ℕ) (fs : List Frame) (j : ℕ) → IsLog n fs → n < line → broken_begun w fs line j ≡ option_and_then (told_if (runs_out line)) (begun_at (within w) fs j)
  begun-none n line fs j log l = grind (arith, begun_at-key, within-ends, find-passes, among-last, up_to)

  begun-frame : (n : ℕ) (fs : List Frame) (x : Frame) (j : ℕ) → IsLog n fs → n < x.line → (x.line ≡ j → ⊥) → broken_begun w (fs ++ x ∷ []) x.line j ≡ option_and_then (told_if (breaks x)) (begun_at (within w) fs j)
  begun-frame n fs x j log l other =
      ap (option_and_then (broken_by w (fs ++ x ∷ []) x.line)) (at_line j fs x other) ∙ by (frame_at j fs) refl
      ∙ sym (ap (option_and_then (told_if (breaks x))) (begun_at-key (within w) (within-ends w some) fs j))
    where
      fine : (k : Key) (g : List Frame) → last_or None (cut (within w) (of_key k fs)) ≡ Some g → IsFine g
      fine k g e =
          subst (λ s. IfSome s IsFine) (sym (last-cut (within w) (of_key k fs)) ∙ e)
          (so_far-fine (within w) (within-ends w some) (of_key k fs) (numbers_of_key k fs log.numbers))

      keyed : (f : Frame) (b : Bool) → same_key f.key x.key ≡ b → broken_by w (fs ++ x ∷ []) x.line f ≡ option_and_then (told_if (breaks x)) (option_and_then (where_begun f.line f.key) (option_and_then incomplete (last_or None (cut (within w) (of_key f.key fs)))))
      keyed f true e =
          ap (λ gs. option_map (broken_of f.key) (broken_among w f.line x.line gs)) (cut_of_same (within w) f.key fs x e)
          ∙ ap (option_map (broken_of f.key)) (among-grown w n f.line (cut (within w) (of_key f.key fs)) x some (up_to (within w) n f.key fs log) l)
          ∙ told_at (λ g. within w g x && nat_le x.line (first g + w.lines)) (breaks x) f.key f.line (last_or None (cut (within w) (of_key f.key fs)))
          (λ g is c b. ap (λ t. t && nat_le x.line (first g + w.lines)) (sym (ends-kept (within w) (within-ends w some) f.key g x (fine f.key g is)))
          ∙ sym (ap (λ t. cond t (within w (held_of (group_of f.key g)) x && nat_le x.line (first g + w.lines)) (first g + w.lines == x.line)) (same_key-sym x.key f.key ∙ e)))
      keyed f false e = grind (arith, cut_of_other, among-last, up_to, same_key-sym)

      by : (o : Option Frame) → frame_at j fs ≡ o → option_and_then (broken_by w (fs ++ x ∷ []) x.line) o ≡ option_and_then (told_if (breaks x)) (option_and_then (λ (k : Key). open_at (within w) (within-ends w some) k fs j) (option_map (λ (f : Frame). f.key) o))
      by o e = grind (arith, find-passes, keyed)

  begun-own : (n : ℕ) (fs : List Frame) (x : Frame) → IsLog n fs → n < x.line → broken_begun w (fs ++ x ∷ []) x.line x.line ≡ None
  begun-own n fs x log l = grind (arith, at_last, cut_of_same, same_key-refl, among-own, up_to)

  -- at a line without a frame, the groups whose window ends there are broken
  pub broken-none : (n : ℕ) (fs : List Frame) → IsLog n fs → broken_with w fs (n + 1) ≡ filter_map (told_if (runs_out (n + 1))) (open_groups (within w) n fs)
  unfolding broken_with open_groups
  broken-none n fs log =
      ap (filter_map (broken_begun w fs (n + 1))) (range-push 1 n) ∙ filter_map-push (broken_begun w fs (n + 1)) (range_with_len 1 n) (1 + n)
      ∙ ap (λ o. filter_map (broken_begun w fs (n + 1)) (range_with_len 1 n) ++ option_to_list o) (ap (option_and_then (broken_by w fs (n + 1))) (none_at n (1 + n) fs log (omega arith)))
      ∙ append-nil (filter_map (broken_begun w fs (n + 1)) (range_with_len 1 n))
      ∙ filter_map-range (broken_begun w fs (n + 1)) (λ j. option_and_then (told_if (runs_out (n + 1))) (begun_at (within w) fs j)) 1 n (λ j a b. begun-none n (n + 1) fs j log (omega arith))
      ∙ filter_map-fused (told_if (runs_out (n + 1))) (begun_at (within w) fs) (range_with_len 1 n)

  -- at the line of a frame, also the group of its key that the frame can't join
  pub broken-last : (n : ℕ) (fs : List Frame) (x : Frame) → IsLog n fs → x.line ≡ n + 1 → broken_with w (fs ++ x ∷ []) (n + 1) ≡ filter_map (told_if (breaks x)) (open_groups (within w) n fs)
  unfolding broken_with open_groups
  broken-last n fs x log at =
      let past : n < x.line = omega (arith, at) in
      let own : 1 + n ≡ x.line = omega (arith, at) in
      ap (λ i. filter_map (broken_begun w (fs ++ x ∷ []) i) (range_with_len 1 (n + 1))) (sym at)
      ∙ ap (filter_map (broken_begun w (fs ++ x ∷ []) x.line)) (range-push 1 n) ∙ filter_map-push (broken_begun w (fs ++ x ∷ []) x.line) (range_with_len 1 n) (1 + n)
      ∙ ap (λ o. filter_map (broken_begun w (fs ++ x ∷ []) x.line) (range_with_len 1 n) ++ option_to_list o) (ap (broken_begun w (fs ++ x ∷ []) x.line) own ∙ begun-own n fs x log past)
      ∙ append-nil (filter_map (broken_begun w (fs ++ x ∷ []) x.line) (range_with_len 1 n))
      ∙ filter_map-range (broken_begun w (fs ++ x ∷ []) x.line) (λ j. option_and_then (told_if (breaks x)) (begun_at (within w) fs j)) 1 n (λ j a b. begun-frame n fs x j log past (λ e. omega (arith, b, e, at)))
      ∙ filter_map-fused (told_if (breaks x)) (begun_at (within w) fs) (range_with_len 1 n)
