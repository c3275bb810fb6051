-- The groups broken at a line: the groups whose window ends there, then the group that a frame can't join.
use Rattle.std.proofs.Common.{◌≡◌, ◌≤◌, ◌<◌, ◌+◌, ℕ, Bool, true, false, cond, List, [], ◌∷◌, ◌++◌, length, map, refl, ap, ◌∙◌, arith, Some, None, option_map, option_to_list, filter_map, length-append}
use Rattle.std.specs.List.{cons_option, AllByRecursion}
use Rattle.std.proofs.lemmas.Bool.{eq-eqb, ne_eqb, lt-leb, le-leb, ltb-true, ltb-false, or_right}
use Rattle.n2k_join.specs.Frames.{Key, same_key, Frame}
use Rattle.n2k_join.specs.Groups.{misfits, within, complete}
use Rattle.n2k_join.specs.Open.{Group, is_waiting, waiting, ended}
use Rattle.n2k_join.specs.Messages.{broken_of, as_broken}
use Rattle.n2k_join.specs.State.{held_of, Rise, IsOpen, AreApart}
use Rattle.n2k_join.specs.Inner.Stored.{lost}
use Rattle.n2k_join.proofs.Advanced.{with_frame, taken, of_the_key, advanced}
use Rattle.n2k_join.proofs.BrokenGroups.{runs_out, breaks, told_if}
use Rattle.n2k_join.proofs.Cuts.{next}
use Rattle.n2k_join.proofs.Keys.{same_key-true}
use Rattle.n2k_join.proofs.Rising.{all-map}
use Rattle.n2k_join.proofs.Windows.{ended-ends, waits-ends, misfits-rejects, later-wait, key-waiting}
use Rattle.n2k_join.specs.Window.{Window}
use Rattle.std.proofs.lemmas.List.Filters.{length-filter_both}
use Rattle.n2k_join.proofs.JoinLemmas.{broken-held}

module _ (w : Window) (some : 0 < w.lines) where
  -- ---- the tests on groups

  pub runs_out-later : (line : ℕ) (o : Group) → is_waiting w line o ≡ true → runs_out w some line o ≡ false
  runs_out-later line o e = let l : line < o.first + w.lines = ltb-true _ _ e in ne_eqb (o.first + w.lines) line (λ f. omega (arith, l, f))

  pub runs_out-past : (n : ℕ) (o : Group) → is_waiting w n o ≡ false → runs_out w some (n + 1) o ≡ false
  runs_out-past n o e = let l : o.first + w.lines ≤ n = ltb-false _ _ e in ne_eqb (o.first + w.lines) (n + 1) (λ f. omega (arith, l, f))

  pub runs_out-now : (n : ℕ) (o : Group) → is_waiting w n o ≡ true → is_waiting w (n + 1) o ≡ false → runs_out w some (n + 1) o ≡ true
  runs_out-now n o e f = let l : n < o.first + w.lines = ltb-true _ _ e in let m : o.first + w.lines ≤ n + 1 = ltb-false _ _ f in eq-eqb (o.first + w.lines) (n + 1) (omega (arith, l, m))

  pub breaks-past : (n : ℕ) (x : Frame) (o : Group) → x.line ≡ n + 1 → is_waiting w n o ≡ false → breaks w some x o ≡ false
  breaks-past n x o at e = grind (arith, ltb-false, lt-leb, ne_eqb)

  pub breaks-now : (n : ℕ) (x : Frame) (o : Group) → x.line ≡ n + 1 → IsOpen o → is_waiting w n o ≡ true → is_waiting w (n + 1) o ≡ false → breaks w some x o ≡ true
  breaks-now n x o at is e f = grind (arith, ltb-true, ltb-false, le-leb, eq-eqb, ended-ends)

  pub breaks-later : (x : Frame) (o : Group) → IsOpen o → is_waiting w x.line o ≡ true → breaks w some x o ≡ cond (same_key x.key o.key) (misfits w (held_of o) x) false
  breaks-later x o is e = grind (arith, ne_eqb, waits-ends)

  -- ---- the groups that are reported

  told-none : (t : Group → Bool) (gs : List Group) → AllByRecursion (λ o. t o ≡ false) gs → filter_map (told_if w some t) gs ≡ []
  told-none t [] all = refl
  told-none t (g ∷ gs) all = ap (λ b. cons_option (cond b (Some (as_broken g)) None) (filter_map (told_if w some t) gs)) all.0 ∙ told-none t gs all.1

  -- groups whose window had ended before are not reported
  pub told-waiting : (n : ℕ) (t : Group → Bool) (gs : List Group) → ((o : Group) → is_waiting w n o ≡ false → t o ≡ false) → filter_map (told_if w some t) gs ≡ filter_map (told_if w some t) (waiting w n gs)
  unfolding waiting
  told-waiting n t [] past = refl
  told-waiting n t (g ∷ gs) past = grind (arith, told-waiting n t gs past)

  -- The groups whose window ends at the line are a prefix of the groups, since first lines rise.
  pub told-prefix : (n least : ℕ) (t : Group → Bool) (gs : List Group) → AllByRecursion (λ o. is_waiting w (n + 1) o ≡ false → t o ≡ true) gs → Rise (λ (g : Group). g.first) least gs
      → filter_map (told_if w some t) gs ≡ map as_broken (ended w (n + 1) gs) ++ filter_map (told_if w some t) (waiting w (n + 1) gs)
  unfolding waiting ended
  told-prefix n least t [] now rise = refl
  told-prefix n least t (g ∷ gs) now rise = grind (arith, told-prefix n (g.first + 1) t gs now.1 rise.1, ltb-true, later-wait)

  -- ---- groups that wait

  pub none-run_out : (line : ℕ) (gs : List Group) → AllByRecursion (λ o. is_waiting w line o ≡ true) gs → filter_map (told_if w some (runs_out w some line)) gs ≡ []
  none-run_out line gs wait = told-none (runs_out w some line) gs (all-map (λ o. is_waiting w line o ≡ true) (λ o. runs_out w some line o ≡ false) gs (λ o e. runs_out-later line o e) wait)

  others-quiet : (x : Frame) (gs : List Group) → AllByRecursion IsOpen gs → AllByRecursion (λ o. is_waiting w x.line o ≡ true) gs → AllByRecursion (λ (h : Group). same_key x.key h.key ≡ false) gs
      → AllByRecursion (λ o. breaks w some x o ≡ false) gs
  others-quiet x [] each wait others = tt
  others-quiet x (g ∷ gs) each wait others = (breaks-later x g each.0 wait.0 ∙ ap (λ b. cond b (misfits w (held_of g) x) false) others.0, others-quiet x gs each.1 wait.1 others.1)

  -- a frame breaks the group of its key, if that has its number
  pub one-broken : (x : Frame) (gs : List Group) → AllByRecursion IsOpen gs → AllByRecursion (λ o. is_waiting w x.line o ≡ true) gs → AllByRecursion (λ (o : Group). o.first < x.line) gs → AreApart gs
      → filter_map (told_if w some (breaks w some x)) gs ≡ option_to_list (lost w.in_order x (of_the_key x.key gs))
  one-broken x [] each wait begun apart = refl
  one-broken x (g ∷ gs) each wait begun apart = by (same_key x.key g.key) refl (one-broken x gs each.1 wait.1 begun.1 apart.1)
    where
      by_test : (r : Bool) → as_broken g ≡ broken_of x.key (held_of g) → cons_option (cond r (Some (as_broken g)) None) [] ≡ option_to_list (cond r (Some (broken_of x.key (held_of g))) None)
      by_test r e = grind arith

      by : (b : Bool) → same_key x.key g.key ≡ b → filter_map (told_if w some (breaks w some x)) gs ≡ option_to_list (lost w.in_order x (of_the_key x.key gs))
          → filter_map (told_if w some (breaks w some x)) (g ∷ gs) ≡ option_to_list (lost w.in_order x (cond b (Some g) (of_the_key x.key gs)))
      by true e later =
          let others = all-map (λ (h : Group). same_key g.key h.key ≡ false) (λ (h : Group). same_key x.key h.key ≡ false) gs (λ h t. ap (λ (k : Key). same_key k h.key) (same_key-true x.key g.key e) ∙ t) apart.0 in
          ap (cons_option (told_if w some (breaks w some x) g)) (told-none (breaks w some x) gs (others-quiet x gs each.1 wait.1 others))
          ∙ ap (λ b. cons_option (cond b (Some (as_broken g)) None) []) (breaks-later x g each.0 wait.0 ∙ ap (λ b. cond b (misfits w (held_of g) x) false) e)
          ∙ by_test (misfits w (held_of g) x) (broken-held g x.key each.0 (same_key-true x.key g.key e))
          ∙ ap (λ r. option_to_list (cond r (Some (broken_of x.key (held_of g))) None)) (misfits-rejects w x g each.0 begun.0)
      by false e later = grind arith

  -- ---- the group that a frame joins or begins

  pub next-waiting : (x : Frame) (gs : List Group) → AllByRecursion IsOpen gs → AreApart gs
      → next (within w) (option_map held_of (of_the_key x.key gs)) x ≡ next (within w) (option_map held_of (of_the_key x.key (waiting w x.line gs))) x
  next-waiting x =
      key-waiting w x (λ o. next (within w) (option_map held_of o) x)
      (λ g is e. ap (λ b. cond b (x ∷ []) (held_of g ++ x ∷ []))
      (or_right (complete (held_of g)) _ (ended-ends w x g is e)))

  -- ---- how many there are

  pub ended-counted : (line : ℕ) (gs : List Group) → length (ended w line gs) + length (waiting w line gs) ≡ length gs
  unfolding waiting ended
  ended-counted line gs = grind (arith, length-filter_both)

  -- a group that a frame breaks goes
  broken-go : (x : Frame) (gs : List Group) → AllByRecursion IsOpen gs → AllByRecursion (λ o. is_waiting w x.line o ≡ true) gs
      → length (filter_map (told_if w some (breaks w some x)) gs) + length (filter_map (taken (within w) x) gs) ≤ length gs
  broken-go x [] each wait = omega arith
  broken-go x (g ∷ gs) each wait = grind (arith, broken-go x gs each.1 wait.1, breaks-later, with_frame)

  -- a frame leaves and breaks at most one group more than there were
  pub advanced-counted : (x : Frame) (gs : List Group) → AllByRecursion IsOpen gs → AllByRecursion (λ o. is_waiting w x.line o ≡ true) gs
      → length (filter_map (told_if w some (breaks w some x)) gs) + length (advanced (within w) gs x) ≤ length gs + 1
  unfolding advanced
  advanced-counted x gs each wait = grind (arith, broken-go, length-append)
