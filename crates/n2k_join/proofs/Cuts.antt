-- The groups of a list of frames, before and after one more frame.
use Rattle.std.proofs.Common.{◌≡◌, ℕ, ◌+◌, ◌<◌, ◌≤◌, ◌||◌, ◌&&◌, true, false, cond, List, [], ◌∷◌, ◌++◌, refl, sym, ap, ◌∙◌, arith, nat_le, append_assoc, Option, Some, None, length, subst, fold, is_some, IfSome, nat_lt, length-append}
use Rattle.std.specs.List.{last_or, flat_map, AllByRecursion}
use Rattle.std.proofs.lemmas.List.Sums.{fold_push}
use Rattle.n2k_join.specs.Frames.{Frame}
use Rattle.n2k_join.specs.Window.{Window}
use Rattle.n2k_join.proofs.Carried.{same_bool, has_number-cons}
use Rattle.std.proofs.lemmas.Bool.{or_left, or_right, or_from, lt-leb, le-leb, le-ltb, eqb-true, false≢true, and_right}
use Rattle.n2k_join.specs.Groups.{EndTest, closes, repeats, has_from, falls_back, misfits, is_late, within, cut_from, cut, carried, has_number, first}
use Rattle.n2k_join.proofs.Rising.{all-joined, last-all}

-- A test that ends groups: a repeated number ends a group. Otherwise the test depends only on what the group carries
-- and where it began, and no frame of that first line ends the group.
pub record IsEnding (ends : EndTest) : Type 0 where
  pub repeated : (g : List Frame) (x : Frame) → has_number x.number g ≡ true → ends g x ≡ true
  pub alike : (g h : List Frame) (x : Frame) → carried g ≡ carried h → first g ≡ first h → ends g x ≡ ends h x
  pub own_line : (g : List Frame) (x : Frame) → first g ≡ x.line → has_number x.number g ≡ false → ends g x ≡ false

-- a number that is in a group, and not below another
pub record HasFrom (n : ℕ) (g : List Frame) : Type 0 where
  pub number : ℕ
  pub least : n ≤ number
  pub has : has_number number g ≡ true

pub from_has : (n : ℕ) (g : List Frame) → has_from n g ≡ true → HasFrom n g
from_has n [] e = absurd (false≢true e)
from_has n (f ∷ g) e = grind (arith, from_has n g, has_number-cons f g f.number)

pub has-from : (n m : ℕ) (g : List Frame) → n ≤ m → has_number m g ≡ true → has_from n g ≡ true
has-from n m [] l e = absurd (false≢true e)
has-from n m (f ∷ g) l e = grind (arith, has-from n m g l, or_left, le-leb, eqb-true, or_right)

-- whether a group has a number from n on depends only on what the group carries
pub has_from-same : (n : ℕ) (g h : List Frame) → carried g ≡ carried h → has_from n g ≡ has_from n h
has_from-same n g h same = same_bool (has_from n g) (has_from n h) (there g h same) (there h g (sym same))
  where
    there : (g h : List Frame) → carried g ≡ carried h → has_from n g ≡ true → has_from n h ≡ true
    there g h same e = let a = from_has n g e in has-from n a.number h a.least (ap (λ c. is_some (c a.number)) (sym same) ∙ a.has)

-- A window of at least one line is a test that ends groups.
pub within-ends : (w : Window) → 0 < w.lines → IsEnding (within w)
within-ends w some = record {
  repeated = λ g x e. or_left (misfits w g x) (is_late w g x) (or_left (repeats g x) (w.in_order && falls_back g x) e);
  alike = λ g h x e f. λ i. (is_some (e i x.number) || (w.in_order && (nat_lt (f i) x.line && has_from-same x.number g h e i))) || nat_le (f i + w.lines) x.line;
  own_line = λ g x e h. or_from (misfits w g x) (is_late w g x) (fits g x e h) (lt-leb (first g + w.lines) x.line (omega (arith, e, some)));
}
  where
    fits : (g : List Frame) (x : Frame) → first g ≡ x.line → has_number x.number g ≡ false → misfits w g x ≡ false
    fits g x e h = or_from (repeats g x) (w.in_order && falls_back g x) h (and_right w.in_order (falls_back g x) (ap (λ b. b && has_from x.number g) (le-ltb (first g) x.line (omega (arith, e)))))

-- the group that a frame joins or begins, given the group so far
abbrev pub next : EndTest → Option (List Frame) → Frame → List Frame
next ends None x = x ∷ []
next ends (Some g) x = cond (closes ends g x) (x ∷ []) (g ++ x ∷ [])

abbrev pub taken_in : EndTest → Option (List Frame) → Frame → Option (List Frame)
taken_in ends g x = Some (next ends g x)

-- the last group of the frames of a key
unfoldable pub so_far : EndTest → List Frame → Option (List Frame)
so_far ends fs = fold (taken_in ends) None fs

-- the groups with one frame more
abbrev pub grown : EndTest → List (List Frame) → Frame → List (List Frame)
grown ends [] x = (x ∷ []) ∷ []
grown ends (g ∷ []) x = cond (closes ends g x) (g ∷ (x ∷ []) ∷ []) ((g ++ x ∷ []) ∷ [])
grown ends (g ∷ h ∷ gs) x = g ∷ grown ends (h ∷ gs) x

module _ (ends : EndTest) where
  grown-cons : (g h fs : List Frame) (x : Frame) → grown ends (g ∷ cut_from ends h fs) x ≡ g ∷ grown ends (cut_from ends h fs) x
  grown-cons g h [] x = refl
  grown-cons g h (f ∷ fs) x = grind (arith, grown-cons g (h ++ f ∷ []) fs x)

  cut_from-push : (g fs : List Frame) (x : Frame) → cut_from ends g (fs ++ x ∷ []) ≡ grown ends (cut_from ends g fs) x
  cut_from-push g [] x = refl
  cut_from-push g (f ∷ fs) x = grind (arith, cut_from-push (f ∷ []) fs x, cut_from-push (g ++ f ∷ []) fs x, grown-cons)

  -- one frame more joins the last group, or begins one
  pub cut-push : (fs : List Frame) (x : Frame) → cut ends (fs ++ x ∷ []) ≡ grown ends (cut ends fs) x
  unfolding cut
  cut-push [] x = refl
  cut-push (f ∷ fs) x = cut_from-push (f ∷ []) fs x

  last-cut_from : (o : Option (List Frame)) (g fs : List Frame) → last_or o (cut_from ends g fs) ≡ fold (taken_in ends) (Some g) fs
  last-cut_from o g [] = refl
  last-cut_from o g (f ∷ fs) = grind (arith, last-cut_from (Some g) (f ∷ []) fs, last-cut_from o (g ++ f ∷ []) fs)

  -- `so_far` is the last group of the cut
  pub last-cut : (fs : List Frame) → last_or None (cut ends fs) ≡ so_far ends fs
  unfolding cut so_far
  last-cut [] = refl
  last-cut (f ∷ fs) = last-cut_from None (f ∷ []) fs

  pub so_far-push : (fs : List Frame) (x : Frame) → so_far ends (fs ++ x ∷ []) ≡ Some (next ends (so_far ends fs) x)
  unfolding so_far
  so_far-push fs x = fold_push (taken_in ends) None fs x

  -- a property of single frames that each joining frame preserves holds of each group
  cut_from-keeps : (Q : List Frame → Type 0) → ((x : Frame) → Q (x ∷ [])) → ((g : List Frame) (x : Frame) → closes ends g x ≡ false → Q g → Q (g ++ x ∷ [])) → (g fs : List Frame) → Q g → AllByRecursion Q (cut_from ends g fs)
  cut_from-keeps Q one more g [] h = (h, tt)
  cut_from-keeps Q one more g (f ∷ fs) h = grind (arith, cut_from-keeps Q one more (f ∷ []) fs (one f), cut_from-keeps Q one more (g ++ f ∷ []) fs)

  pub cut-keeps : (Q : List Frame → Type 0) → ((x : Frame) → Q (x ∷ [])) → ((g : List Frame) (x : Frame) → closes ends g x ≡ false → Q g → Q (g ++ x ∷ [])) → (fs : List Frame) → AllByRecursion Q (cut ends fs)
  unfolding cut
  cut-keeps Q one more [] = tt
  cut-keeps Q one more (f ∷ fs) = cut_from-keeps Q one more (f ∷ []) fs (one f)

  -- no group is empty
  pub cut-nonempty : (fs : List Frame) → AllByRecursion (λ (g : List Frame). 0 < length g) (cut ends fs)
  cut-nonempty fs = cut-keeps (λ g. 0 < length g) (λ x. omega arith) (λ g x c h. omega (arith, length-append g (x ∷ []))) fs

  -- the groups joined are the frames
  cut_from-joined : (g fs : List Frame) → flat_map (λ (h : List Frame). h) (cut_from ends g fs) ≡ g ++ fs
  cut_from-joined g [] = refl
  cut_from-joined g (f ∷ fs) = grind (arith, cut_from-joined (f ∷ []) fs, cut_from-joined (g ++ f ∷ []) fs, append_assoc)

  pub cut-joined : (fs : List Frame) → flat_map (λ (h : List Frame). h) (cut ends fs) ≡ fs
  unfolding cut
  cut-joined [] = refl
  cut-joined (f ∷ fs) = cut_from-joined (f ∷ []) fs

  -- a property of each frame holds of the frames of each group
  pub cut-all : (P : Frame → Type 0) (fs : List Frame) → AllByRecursion P fs → AllByRecursion (AllByRecursion P) (cut ends fs)
  cut-all P fs all = all-joined P (cut ends fs) (subst (AllByRecursion P) (sym (cut-joined fs)) all)

  -- a property of each frame holds of the frames of the last group
  pub so_far-all : (P : Frame → Type 0) (fs : List Frame) → AllByRecursion P fs → IfSome (so_far ends fs) (AllByRecursion P)
  so_far-all P fs all = grind (arith, last-cut fs, cut-all P fs all, last-all)

  pub so_far-keeps : (Q : List Frame → Type 0) → ((x : Frame) → Q (x ∷ [])) → ((g : List Frame) (x : Frame) → closes ends g x ≡ false → Q g → Q (g ++ x ∷ [])) → (fs : List Frame) → IfSome (so_far ends fs) Q
  so_far-keeps Q one more fs = grind (arith, last-cut fs, cut-keeps Q one more fs, last-all)
