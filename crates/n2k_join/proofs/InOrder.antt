-- With a window in order each complete group is of consecutive frames.
use Rattle.std.proofs.Common.{◌≡◌, ◌==◌, ℕ, zero, suc, ◌+◌, ◌<◌, ◌≤◌, ◌&&◌, Bool, true, false, cond, not, List, [], ◌∷◌, ◌++◌, length, map, refl, sym, ap, ◌∙◌, subst, arith, append_assoc, nat_le, Option, Some, is_some, length-append}
use Rattle.std.specs.List.{range_with_len, AllByRecursion}
use Rattle.std.proofs.lemmas.List.Elements.{All-from_recursion}
use Rattle.std.proofs.lemmas.Bool.{or_parts, and_parts, leb-true, leb-false, eqb-true, ne_eqb, false≢true}
use Rattle.std.proofs.lemmas.Option.{same_Some}
use Rattle.n2k_wire.specs.declared.entry.Entry.{Entry}
use Rattle.n2k_table.specs.declared.definition.Kind.{Kind}
use Rattle.n2k_join.specs.Frames.{Key, Frame, frames, of_key, frame_at}
use Rattle.n2k_join.specs.Groups.{carried, has_number, has_twice, has_all, is_within, last_number, total, complete, first, last_line, has_from, within, closes, cut_from, cut}
use Rattle.n2k_join.specs.Messages.{Keyed, gathered}
use Rattle.n2k_join.specs.Scattered.{all_frames}
use Rattle.n2k_join.specs.State.{Rise}
use Rattle.n2k_join.specs.Consecutive.{AreConsecutive, GroupsConsecutive, ComesOfConsecutive}
use Rattle.n2k_join.specs.Window.{Window}
use Rattle.n2k_join.proofs.Arriving.{key-rise, StandsAt, stand}
use Rattle.n2k_join.proofs.Lines.{RiseFrom, line_of}
use Rattle.n2k_join.proofs.GroupLines.{last_frame, IsGroup}
use Rattle.n2k_join.proofs.Rising.{find-all, find-passes, all-prefix, all-back, rise-rest, all_to, all_with, all-map}
use Rattle.n2k_join.proofs.Cuts.{cut-joined}

-- the numbers of frames rise, from one on
abbrev Numbers : ℕ → List Frame → Type 0
Numbers least g = Rise (λ (f : Frame). f.number) least g

-- a frame above all others
above-all : (n : ℕ) (f : Frame) (g : List Frame) → has_from n (f ∷ g) ≡ false → (f.number < n) × (has_from n g ≡ false)
above-all n f g e = let parts = or_parts (nat_le n f.number) (has_from n g) e in (leb-false n f.number parts.0, parts.1)

numbers-push : (least : ℕ) (g : List Frame) (x : Frame) → Numbers least g → least ≤ x.number → has_from x.number g ≡ false → Numbers least (g ++ x ∷ [])
numbers-push least [] x r l e = (l, tt)
numbers-push least (f ∷ g) x r l e = let a = above-all x.number f g e in (r.0, numbers-push (f.number + 1) g x r.1 (omega (arith, a.0)) a.1)

-- the first of frames whose lines rise is before each later one
first-before : (n : ℕ) (g : List Frame) (x : Frame) (rest : List Frame) → 0 < length g → RiseFrom n (g ++ (x ∷ rest)) → first g < x.line
first-before n [] x rest some r = absurd (omega (arith, some))
first-before n (f ∷ g) x rest some r = grind (arith, rise-rest)

module _ (w : Window) (order : w.in_order ≡ true) where
  -- a frame that joins a group is above all of its numbers
  fits : (g : List Frame) (x : Frame) → first g < x.line → closes (within w) g x ≡ false → has_from x.number g ≡ false
  fits g x l e = grind arith

  cut_from-numbers : (n : ℕ) (g fs : List Frame) → 0 < length g → Numbers 0 g → RiseFrom n (g ++ fs) → AllByRecursion (Numbers 0) (cut_from (within w) g fs)
  cut_from-numbers n g [] some r lines = (r, tt)
  cut_from-numbers n g (f ∷ fs) some r lines =
      by (closes (within w) g f) refl
      (cut_from-numbers n (f ∷ []) fs (omega arith) (omega arith, tt) (rise-rest line_of n g (f ∷ fs) lines))
      (λ h. cut_from-numbers n (g ++ f ∷ []) fs (omega (arith, length-append g (f ∷ []))) h (subst (RiseFrom n) (sym (append_assoc g (f ∷ []) fs)) lines))
    where
      by : (b : Bool) → closes (within w) g f ≡ b → AllByRecursion (Numbers 0) (cut_from (within w) (f ∷ []) fs) → (Numbers 0 (g ++ f ∷ []) → AllByRecursion (Numbers 0) (cut_from (within w) (g ++ f ∷ []) fs))
          → AllByRecursion (Numbers 0) (cond b (g ∷ cut_from (within w) (f ∷ []) fs) (cut_from (within w) (g ++ f ∷ []) fs))
      by true e ended grown = (r, ended)
      by false e ended grown = grown (numbers-push 0 g f r (omega arith) (fits g f (first-before n g f fs some lines) e))

  -- the numbers of each group rise
  cut-numbers : (n : ℕ) (fs : List Frame) → RiseFrom n fs → AllByRecursion (Numbers 0) (cut (within w) fs)
  unfolding cut
  cut-numbers n [] r = tt
  cut-numbers n (f ∷ fs) r = cut_from-numbers n (f ∷ []) fs (omega arith) (omega arith, tt) r

-- ---- numbers that rise, with none missing

none-under : (m least : ℕ) (g : List Frame) → m < least → Numbers least g → has_number m g ≡ false
none-under m least [] l r = refl
none-under m least (f ∷ g) l r = ap (λ b. is_some (cond b (Some f.bytes) (carried g m))) (ne_eqb f.number m (λ e. omega (arith, l, r.0, e))) ∙ none-under m (f.number + 1) g (omega (arith, l, r.0)) r.1

-- all numbers of a range, by rising number, are the range
are-range : (a n : ℕ) (g : List Frame) → Numbers a g → AllByRecursion (λ (f : Frame). f.number < a + n) g → ((m : ℕ) → a ≤ m → m < a + n → has_number m g ≡ true) → map (λ (f : Frame). f.number) g ≡ range_with_len a n
are-range a zero [] r below has = refl
are-range a zero (f ∷ g) r below has = absurd (omega (arith, r.0, below.0))
are-range a (suc n) [] r below has = absurd (false≢true (has a (omega arith) (omega arith)))
are-range a (suc n) (f ∷ g) r below has =
    let is : f.number ≡ a = at (f.number == a) refl in
    let r' : Numbers (a + 1) g = subst (λ k. Numbers (k + 1) g) is r.1 in
    ap (λ k. k ∷ map (λ (f : Frame). f.number) g) is
    ∙ ap (λ ks. a ∷ ks) (are-range (a + 1) n g r' (all-map (λ (h : Frame). h.number < a + suc n) (λ (h : Frame). h.number < (a + 1) + n) g (λ h u. omega (arith, u)) below.1)
    (λ m l u. sym (ap (λ b. is_some (cond b (Some f.bytes) (carried g m))) (ne_eqb f.number m (λ e. omega (arith, e, is, l)))) ∙ has m (omega (arith, l)) (omega (arith, u))))
  where
    at : (b : Bool) → (f.number == a) ≡ b → f.number ≡ a
    at b e = grind (arith, eqb-true, none-under)

below-last : (last : ℕ) (g : List Frame) → is_within last g ≡ true → AllByRecursion (λ (f : Frame). f.number < 0 + (last + 1)) g
below-last last [] e = tt
below-last last (f ∷ g) e = grind (arith, below-last last g (and_parts (nat_le f.number last) (is_within last g) e).1, leb-true)

-- the rising numbers of a complete group are a range
whole-range : (g : List Frame) → Numbers 0 g → complete g ≡ true → map (λ (f : Frame). f.number) g ≡ range_with_len 0 (last_number (total g) + 1)
unfolding complete
whole-range g r e =
    let one = and_parts (not (has_twice g)) (has_number 0 g && (has_all (last_number (total g)) g && is_within (last_number (total g)) g)) e in
    let two = and_parts (has_number 0 g) (has_all (last_number (total g)) g && is_within (last_number (total g)) g) one.1 in
    let three = and_parts (has_all (last_number (total g)) g) (is_within (last_number (total g)) g) two.1 in
    are-range 0 (last_number (total g) + 1) g r (below-last (last_number (total g)) g three.1) (λ m l u. all_to (λ n. has_number n g) 0 (last_number (total g) + 1) m three.0 l u)

-- ---- the groups of a key, in their places

record StandsIn (fs g : List Frame) : Type 0 where
  before : List Frame
  after : List Frame
  is : fs ≡ before ++ (g ++ after)

in_places : (fs before : List Frame) (gs : List (List Frame)) → fs ≡ before ++ all_frames gs → AllByRecursion (StandsIn fs) gs
in_places fs before [] e = tt
in_places fs before (g ∷ gs) e = (record { before = before; after = all_frames gs; is = e }, in_places fs (before ++ g) gs (e ∙ sym (append_assoc before g (all_frames gs))))

abbrev Whole : Key → List Frame → List Frame → Type 0
Whole key fs g = complete g ≡ true → AreConsecutive key fs g

all_whole : (w : Window) → w.in_order ≡ true → (kind : ℕ → Option Kind) (es : List Entry) (key : Key) → AllByRecursion (Whole key (frames kind es)) (cut (within w) (of_key key (frames kind es)))
all_whole w order kind es key = grind (arith, in_places (of_key key (frames kind es)) [] (cut (within w) (of_key key (frames kind es))) (sym (cut-joined (within w) (of_key key (frames kind es)))), cut-numbers w order 1 (of_key key (frames kind es)) (key-rise kind es key), key-rise kind es key, all_with, whole-range)

pub groups_consecutive : (w : Window) → w.in_order ≡ true → (kind : ℕ → Option Kind) (es : List Entry) (key : Key) → GroupsConsecutive w kind es key
groups_consecutive w order kind es key = All-from_recursion (Whole key (frames kind es)) (cut (within w) (of_key key (frames kind es))) (all_whole w order kind es key)

-- ---- the message of a group

whole-group : (g : List Frame) → complete g ≡ true → IsGroup g
unfolding complete
whole-group [] e = absurd (false≢true e)
whole-group (f ∷ g) e = omega arith

-- the last of consecutive frames is found at its line
ends-at : (kind : ℕ → Option Kind) (es : List Entry) (key : Key) (g : List Frame) (f : Frame)
    → AreConsecutive key (frames kind es) g → IsGroup g → frame_at (last_line g) (frames kind es) ≡ Some f
    → (before : List Frame) × (g ≡ before ++ f ∷ [])
ends-at kind es key g f is some found = grind (arith, stand kind es key, last_frame (StandsAt (frames kind es) key) g some (all-prefix (StandsAt (frames kind es) key) g is.after (all-back (StandsAt (frames kind es) key) is.before (g ++ is.after) (subst (AllByRecursion (StandsAt (frames kind es) key)) is.together (stand kind es key)))), all-back (StandsAt (frames kind es) key) is.before (g ++ is.after) (subst (AllByRecursion (StandsAt (frames kind es) key)) is.together (stand kind es key)), same_Some)

-- each message that a group gives is of one
pub comes_of_consecutive : (w : Window) → w.in_order ≡ true → (kind : ℕ → Option Kind) (es : List Entry) (line : ℕ) (m : Keyed) → gathered (within w) (frames kind es) line ≡ Some m → ComesOfConsecutive kind es line m
unfolding gathered
comes_of_consecutive w order kind es line m e = grind (arith, find-passes, find-all, all_whole, ends-at, whole-group)
