-- The open groups of a list of frames, before and after one more frame.
use Rattle.std.proofs.Common.{◌≡◌, ◌==◌, ◌≤◌, ◌<◌, ◌+◌, ℕ, true, false, cond, List, [], ◌∷◌, ◌++◌, length, refl, sym, ap, ◌∙◌, subst, arith, Option, Some, None, option_map, option_and_then, option_to_list, filter_map, is_some, IfSome, append-nil}
use Rattle.std.specs.Option.{option_or}
use Rattle.std.specs.List.{range_with_len, AllByRecursion}
use Rattle.std.proofs.lemmas.List.Folds.{find-append}
use Rattle.std.proofs.lemmas.Bool.{eq-eqb, ne_eqb, false≢true}
use Rattle.std.proofs.lemmas.Option.{none-some}
use Rattle.n2k_join.specs.Frames.{Key, same_key, Frame, of_key, frame_at, most_frames}
use Rattle.n2k_join.specs.Groups.{EndTest, complete, has_twice, first, incomplete, open_of}
use Rattle.n2k_join.specs.Open.{Group, group_of, where_begun, begun_at, open_groups}
use Rattle.n2k_join.specs.State.{held_of}
use Rattle.n2k_join.proofs.Advanced.{with_frame, taken, started, of_the_key, opened, advanced}
use Rattle.n2k_join.proofs.Carried.{carried-push, complete-same, pieces_of-same, has_twice-push}
use Rattle.n2k_join.proofs.Cuts.{IsEnding, next, so_far, so_far-push, so_far-all, so_far-keeps, last-cut}
use Rattle.n2k_join.proofs.Held.{AreNumbered, carried-kept, has_twice-kept, first-kept}
use Rattle.n2k_join.proofs.Keys.{same_key-true, same_key-refl, same_key-sym, of_key-same, of_key-other, of_key-keeps}
use Rattle.n2k_join.proofs.Rising.{range-push, filter_map-push, filter_map-fused, filter_map-range, find-passes, find-all, find-none, look, look-filter_map, all-range, all-map, passes_none}

abbrev pub key_at : ℕ → List Frame → Option Key
key_at line fs = option_map (λ (f : Frame). f.key) (frame_at line fs)

-- frames of lines 1 to n, with numbers of five bits; frames of one line have one key
pub record IsLog (n : ℕ) (fs : List Frame) : Type 0 where
  pub lines : AllByRecursion (λ (f : Frame). (1 ≤ f.line) × (f.line ≤ n)) fs
  pub numbers : AreNumbered fs
  pub keys : AllByRecursion (λ (f : Frame). key_at f.line fs ≡ Some f.key) fs

-- the facts of a group of a cut
pub record IsFine (g : List Frame) : Type 0 where
  pub numbers : AreNumbered g
  pub once : has_twice g ≡ false
  pub nonempty : 0 < length g

-- an open group comes from the group so far of its key, which is incomplete
pub record IsBegun (ends : EndTest) (fs : List Frame) (o : Group) : Type 0 where
  pub group : List Frame
  pub so_far_is : so_far ends (of_key o.key fs) ≡ Some group
  pub once : has_twice group ≡ false
  pub nonempty : 0 < length group
  pub left : complete group ≡ false
  pub is : group_of o.key group ≡ o

pub first-push : (g : List Frame) (x : Frame) → 0 < length g → first (g ++ x ∷ []) ≡ first g
first-push [] x some = absurd (omega (arith, some))
first-push (f ∷ g) x some = refl

both : {X : Type 0} (P Q : X → Type 0) (o : Option X) → IfSome o P → IfSome o Q → IfSome o (λ x. P x × Q x)
both P Q o p q = grind arith

-- ---- the lines of frames

pub at_line : (i : ℕ) (fs : List Frame) (x : Frame) → (x.line ≡ i → ⊥) → frame_at i (fs ++ x ∷ []) ≡ frame_at i fs
at_line i fs x other =
    find-append (λ (f : Frame). f.line == i) fs (x ∷ [])
    ∙ ap (λ b. option_or (frame_at i fs) (cond b (Some x) None)) (ne_eqb x.line i other)
    ∙ elim (frame_at i fs) as (λ o. option_or o None ≡ o) [ None ↦ refl | Some f ↦ refl ]

pub none_at : (n i : ℕ) (fs : List Frame) → IsLog n fs → n < i → frame_at i fs ≡ None
none_at n i fs log l = find-none (λ (f : Frame). f.line == i) fs (all-map _ (λ (f : Frame). (f.line == i) ≡ false) fs (λ f h. ne_eqb f.line i (λ e. omega (arith, h.1, e))) log.lines)

pub at_last : (n : ℕ) (fs : List Frame) (x : Frame) → IsLog n fs → n < x.line → frame_at x.line (fs ++ x ∷ []) ≡ Some x
at_last n fs x log l =
    find-append (λ (f : Frame). f.line == x.line) fs (x ∷ [])
    ∙ ap (λ o. option_or o (cond (x.line == x.line) (Some x) None)) (none_at n x.line fs log l)
    ∙ ap (λ b. cond b (Some x) None) (eq-eqb x.line x.line refl)

-- the held frames of a group complete and take a frame as the group does
pub complete-kept : (k : Key) (g : List Frame) → IsFine g → complete (held_of (group_of k g)) ≡ complete g
complete-kept k g fine = complete-same (held_of (group_of k g)) g (carried-kept k g fine.numbers) (has_twice-kept k g ∙ sym fine.once)

pub complete-kept_push : (k : Key) (g : List Frame) (x : Frame) → IsFine g → complete (held_of (group_of k g) ++ x ∷ []) ≡ complete (g ++ x ∷ [])
complete-kept_push k g x fine = grind (arith, complete-same (held_of (group_of k g) ++ x ∷ []) (g ++ x ∷ []) (carried-push (held_of (group_of k g)) g x (carried-kept k g fine.numbers)) (has_twice-push (held_of (group_of k g)) x (has_twice-kept k g) ∙ ap (λ (c : ℕ → Option (List ℕ)). is_some (c x.number)) (carried-kept k g fine.numbers) ∙ sym (has_twice-push g x fine.once)))

pub with_frame-kept : (k : Key) (g : List Frame) (x : Frame) → IsFine g → with_frame (group_of k g) x ≡ group_of k (g ++ x ∷ [])
with_frame-kept k g x fine = grind (arith, carried-push (held_of (group_of k g)) g x (carried-kept k g fine.numbers), pieces_of-same)

pub numbers_of_key : (k : Key) (fs : List Frame) → AreNumbered fs → AreNumbered (of_key k fs)
numbers_of_key k fs all = all-map _ (λ (f : Frame). f.number < most_frames) (of_key k fs) (λ f h. h.0) (of_key-keeps (λ (f : Frame). f.number < most_frames) k fs all)

module _ (ends : EndTest) (is_ending : IsEnding ends) where
  -- the open group of a key, if it begins at a line
  abbrev pub open_at : Key → List Frame → ℕ → Option Group
  open_at k fs i = option_and_then (where_begun i k) (open_of ends k fs)

  pub begun_at-key : (fs : List Frame) (i : ℕ) → begun_at ends fs i ≡ option_and_then (λ (k : Key). open_at k fs i) (key_at i fs)
  unfolding begun_at
  begun_at-key fs i = grind arith

  pub open_of-so_far : (k : Key) (fs : List Frame) → open_of ends k fs ≡ option_and_then incomplete (so_far ends (of_key k fs))
  open_of-so_far k fs = ap (option_and_then incomplete) (last-cut ends (of_key k fs))

  -- the open group of a key is its group so far, and not complete
  open_is : (k : Key) (fs g : List Frame) → open_of ends k fs ≡ Some g
      → (so_far ends (of_key k fs) ≡ Some g) × (complete g ≡ false)
  open_is k fs g e = grind (arith, so_far, open_of-so_far, none-some)

  so_far-once : (fs : List Frame) → IfSome (so_far ends fs) (λ g. (has_twice g ≡ false) × (0 < length g))
  so_far-once fs = grind (arith, so_far-keeps, has_twice-push)

  pub so_far-fine : (fs : List Frame) → AreNumbered fs → IfSome (so_far ends fs) IsFine
  so_far-fine fs numbers = grind (arith, so_far-once fs, so_far-all)

  -- the held frames of a group end before a frame exactly if the group does
  pub ends-kept : (k : Key) (g : List Frame) (x : Frame) → IsFine g → ends (held_of (group_of k g)) x ≡ ends g x
  ends-kept k g x fine = is_ending.alike (held_of (group_of k g)) g x (carried-kept k g fine.numbers) (first-kept k g fine.numbers fine.nonempty)

  taken-ended : (k : Key) (g : List Frame) (x : Frame) → IsFine g → same_key x.key k ≡ true → ends g x ≡ true → taken ends x (group_of k g) ≡ None
  taken-ended k g x fine same e = grind (arith, ends-kept)

  taken-joined : (k : Key) (g : List Frame) (x : Frame) → IsFine g → same_key x.key k ≡ true → ends g x ≡ false → taken ends x (group_of k g) ≡ cond (complete (g ++ x ∷ [])) None (Some (group_of k (g ++ x ∷ [])))
  taken-joined k g x fine same e = grind (arith, ends-kept, complete-kept_push, with_frame-kept)

  -- a group of one frame begins only at the frame's line
  not_here : (k : Key) (x : Frame) (i : ℕ) → (x.line ≡ i → ⊥) → option_and_then (where_begun i k) (incomplete (x ∷ [])) ≡ None
  not_here k x i other = grind arith

  here : (x : Frame) → option_and_then (where_begun x.line x.key) (incomplete (x ∷ [])) ≡ started x
  here x = grind arith

  -- A key's group so far with a frame more, seen at another line than the frame's.
  stays_or_goes : (k : Key) (x : Frame) (i : ℕ) → same_key x.key k ≡ true → (x.line ≡ i → ⊥) → (s : Option (List Frame)) → IfSome s IsFine
      → option_and_then (where_begun i k) (incomplete (next ends s x)) ≡ option_and_then (taken ends x) (option_and_then (where_begun i k) (option_and_then incomplete s))
  stays_or_goes k x i same other s fine = grind (arith, not_here, taken-ended, taken-joined)

  -- A key's group so far with a frame more, seen at the frame's line.
  is_opened : (x : Frame) (s : Option (List Frame)) → IfSome s IsFine → IfSome s (λ g. first g ≡ x.line → ⊥)
      → option_and_then (where_begun x.line x.key) (incomplete (next ends s x)) ≡ opened ends x (option_map (group_of x.key) (option_and_then incomplete s))
  is_opened x s fine past = grind (arith, here, ends-kept)

  open_at-push : (k : Key) (fs : List Frame) (x : Frame) (i : ℕ) → AreNumbered fs → (x.line ≡ i → ⊥) → open_at k (fs ++ x ∷ []) i ≡ option_and_then (taken ends x) (open_at k fs i)
  open_at-push k fs x i numbers other = grind (arith, open_of-so_far, of_key-same, same_key-sym, so_far-push, stays_or_goes, so_far-fine, numbers_of_key, of_key-other)

  begun_at-push : (fs : List Frame) (x : Frame) (i : ℕ) → AreNumbered fs → (x.line ≡ i → ⊥) → begun_at ends (fs ++ x ∷ []) i ≡ option_and_then (taken ends x) (begun_at ends fs i)
  begun_at-push fs x i numbers other = grind (arith, begun_at-key, at_line, open_at-push)

  -- ---- the open group of a key is found among the open groups

  pub begun_at-is : (fs : List Frame) (i : ℕ) (o : Group) → begun_at ends fs i ≡ Some o → (o.first ≡ i) × (option_map (group_of o.key) (open_of ends o.key fs) ≡ Some o)
  unfolding begun_at
  begun_at-is fs i o e = grind arith

  pub open_groups-each : (n : ℕ) (fs : List Frame) → AllByRecursion (λ (o : Group). option_map (group_of o.key) (open_of ends o.key fs) ≡ Some o) (open_groups ends n fs)
  unfolding open_groups
  open_groups-each n fs = all-range (λ (o : Group). option_map (group_of o.key) (open_of ends o.key fs) ≡ Some o) (begun_at ends fs) 1 n (λ i o l u e. (begun_at-is fs i o e).1)

  pub begun_group : (fs : List Frame) (i : ℕ) (o : Group) → begun_at ends fs i ≡ Some o → IsBegun ends fs o
  begun_group fs i o e = grind (arith, begun_at-is fs i o e, so_far-once (of_key o.key fs), open_is)

  -- a property of all frames holds of the frames of such a group, which have its key
  pub begun_all : (P : Frame → Type 0) (fs : List Frame) (o : Group) (begun : IsBegun ends fs o) → AllByRecursion P fs
      → AllByRecursion (λ (f : Frame). P f × (f.key ≡ o.key)) begun.group
  begun_all P fs o begun all =
      subst (λ s. IfSome s (AllByRecursion (λ (f : Frame). P f × (f.key ≡ o.key)))) begun.so_far_is
      (so_far-all ends (λ (f : Frame). P f × (f.key ≡ o.key)) (of_key o.key fs) (of_key-keeps P o.key fs all))

  -- a group of a key's cut begins at a line of the log that has a frame of that key
  pub so_far-begins : (n : ℕ) (k : Key) (fs : List Frame) → IsLog n fs → IfSome (so_far ends (of_key k fs)) (λ g. (1 ≤ first g) × (first g ≤ n) × (key_at (first g) fs ≡ Some k))
  so_far-begins n k fs log = grind (arith, so_far-fine (of_key k fs) (numbers_of_key k fs log.numbers), so_far-all, of_key-keeps)

  open_of-begins : (n : ℕ) (k : Key) (fs : List Frame) (g : List Frame) → IsLog n fs → open_of ends k fs ≡ Some g
      → (1 ≤ first g) × (first g ≤ n) × (key_at (first g) fs ≡ Some k)
  open_of-begins n k fs g log e = grind (arith, open_is k fs g e, so_far-begins n k fs log)

  pub found-open : (n : ℕ) (k : Key) (fs : List Frame) → IsLog n fs → of_the_key k (open_groups ends n fs) ≡ option_map (group_of k) (open_of ends k fs)
  unfolding open_groups
  found-open n k fs log = by_found (of_the_key k (open_groups ends n fs)) refl
    where
      by_none : of_the_key k (open_groups ends n fs) ≡ None → (o : Option (List Frame)) → open_of ends k fs ≡ o → None ≡ option_map (group_of k) o
      by_none e None is = refl
      by_none e (Some g) is =
          let at = open_of-begins n k fs g log is in
          let stands : begun_at ends fs (first g) ≡ Some (group_of k g) =
          begun_at-key fs (first g) ∙ ap (option_and_then (λ (k : Key). open_at k fs (first g))) at.2 ∙ ap (option_and_then (where_begun (first g) k)) is ∙ ap (λ b. cond b (Some (group_of k g)) None) (eq-eqb (first g) (first g) refl) in
          let listed : look (λ (o : Group). o.first) (open_groups ends n fs) (first g) ≡ Some (group_of k g) =
          look-filter_map (λ (o : Group). o.first) (begun_at ends fs) (λ i o e. (begun_at-is fs i o e).0) 1 n (first g) at.0 (omega (arith, at.1)) ∙ stands in
          let differs : same_key k k ≡ false = find-all (λ (o : Group). same_key k o.key ≡ false) (λ (o : Group). o.first == first g) (open_groups ends n fs) (group_of k g) (passes_none (λ (o : Group). same_key k o.key) (open_groups ends n fs) e) listed in
          absurd (false≢true (sym differs ∙ same_key-refl k))

      by_found : (o : Option Group) → of_the_key k (open_groups ends n fs) ≡ o → of_the_key k (open_groups ends n fs) ≡ option_map (group_of k) (open_of ends k fs)
      by_found None e = e ∙ by_none e (open_of ends k fs) refl
      by_found (Some o) e =
          let is : k ≡ o.key = same_key-true k o.key (find-passes (λ (o : Group). same_key k o.key) (open_groups ends n fs) o e) in
          let gives : option_map (group_of o.key) (open_of ends o.key fs) ≡ Some o = find-all (λ (o : Group). option_map (group_of o.key) (open_of ends o.key fs) ≡ Some o) (λ (o : Group). same_key k o.key) (open_groups ends n fs) o (open_groups-each n fs) e in
          e ∙ sym (subst (λ k. option_map (group_of k) (open_of ends k fs) ≡ Some o) (sym is) gives)

  -- ---- the step

  pub open_groups-none : (n : ℕ) (fs : List Frame) → IsLog n fs → open_groups ends (n + 1) fs ≡ open_groups ends n fs
  unfolding open_groups
  open_groups-none n fs log = grind (arith, range-push, filter_map-push, begun_at-key, none_at, append-nil)

  begun_at-last : (n : ℕ) (fs : List Frame) (x : Frame) → IsLog n fs → n < x.line → begun_at ends (fs ++ x ∷ []) x.line ≡ opened ends x (of_the_key x.key (open_groups ends n fs))
  begun_at-last n fs x log l = grind (arith, begun_at-key (fs ++ x ∷ []) x.line, at_last n fs x log l, open_of-so_far x.key (fs ++ x ∷ []), open_of-so_far x.key fs, of_key-same x.key fs x (same_key-refl x.key), so_far-fine (of_key x.key fs) (numbers_of_key x.key fs log.numbers), so_far-begins n x.key fs log, found-open n x.key fs log, so_far-push, is_opened)

  -- one frame more: the open groups advance
  pub open_groups-push : (n : ℕ) (fs : List Frame) (x : Frame) → IsLog n fs → x.line ≡ n + 1 → open_groups ends (n + 1) (fs ++ x ∷ []) ≡ advanced ends (open_groups ends n fs) x
  unfolding open_groups advanced
  open_groups-push n fs x log at =
      let line : 1 + n ≡ x.line = omega (arith, at) in
      ap (filter_map (begun_at ends (fs ++ x ∷ []))) (range-push 1 n) ∙ filter_map-push (begun_at ends (fs ++ x ∷ [])) (range_with_len 1 n) (1 + n)
      ∙ ap (λ t. t ++ option_to_list (begun_at ends (fs ++ x ∷ []) (1 + n)))
      (filter_map-range (begun_at ends (fs ++ x ∷ [])) (λ i. option_and_then (taken ends x) (begun_at ends fs i)) 1 n (λ i l u. begun_at-push fs x i log.numbers (λ e. omega (arith, e, at)))
      ∙ filter_map-fused (taken ends x) (begun_at ends fs) (range_with_len 1 n))
      ∙ ap (λ o. filter_map (taken ends x) (open_groups ends n fs) ++ option_to_list o) (ap (begun_at ends (fs ++ x ∷ [])) line ∙ begun_at-last n fs x log (omega (arith, at)))
