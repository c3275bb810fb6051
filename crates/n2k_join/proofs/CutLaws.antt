-- The laws of the groups that frames are cut into.
use Rattle.std.proofs.Common.{◌≡◌, ◌≤◌, ◌<◌, ◌+◌, ◌&&◌, ℕ, suc, zero, Bool, true, false, cond, List, [], ◌∷◌, ◌++◌, length, refl, sym, ap, ◌∙◌, subst, arith, append_assoc, Option, Some, slice_get, option_map, ◌⊎◌, inl, inr}
use Rattle.std.specs.List.{AllByRecursion}
use Rattle.std.proofs.lemmas.List.{append-nil, length-append, same_from_push}
use Rattle.std.proofs.lemmas.List.Elements.{All-from_recursion}
use Rattle.std.proofs.lemmas.Bool.{or_left}
use Rattle.std.proofs.lemmas.Option.{none-some}
use Rattle.n2k_wire.specs.declared.entry.Entry.{Entry}
use Rattle.n2k_table.specs.declared.definition.Kind.{Kind}
use Rattle.n2k_join.specs.Frames.{Frame}
use Rattle.n2k_join.specs.Groups.{EndTest, EndsRepeats, closes, complete, repeats, misfits, falls_back, is_late, within, has_twice, cut_from, cut, HasEnded, IsFirstGroup, first}
use Rattle.n2k_join.specs.Laws.{CutJoins, HasFirstGroup, CutFirst, IsSettled, CutGrows, HasSettled}
use Rattle.n2k_join.proofs.Carried.{has_twice-push}
use Rattle.n2k_join.proofs.Cuts.{grown, cut-push, cut-joined, cut-keeps, cut-nonempty}
use Rattle.n2k_join.proofs.Logs.{message-before, broken-before}
use Rattle.n2k_join.specs.Window.{Window}

-- no group is empty
abbrev AreGroups : List (List Frame) → Type 0
AreGroups gs = AllByRecursion (λ (g : List Frame). 0 < length g) gs

pub cut_joins : (ends : EndTest) (fs : List Frame) → EndsRepeats ends → CutJoins ends fs
cut_joins ends fs is = record {
  joined = cut-joined ends fs;
  nonempty = All-from_recursion (λ (g : List Frame). 0 < length g) (cut ends fs) (cut-nonempty ends fs);
  once = All-from_recursion (λ (g : List Frame). has_twice g ≡ false) (cut ends fs) (cut-keeps ends (λ g. has_twice g ≡ false) (λ x. refl) more fs);
}
  where
    unrepeated : (g : List Frame) (x : Frame) (b : Bool) → closes ends g x ≡ false → repeats g x ≡ b → repeats g x ≡ false
    unrepeated g x b c e = grind arith

    more : (g : List Frame) (x : Frame) → closes ends g x ≡ false → has_twice g ≡ false → has_twice (g ++ x ∷ []) ≡ false
    more g x c h = has_twice-push g x h ∙ unrepeated g x (repeats g x) c refl

pub window_repeats : (w : Window) → EndsRepeats (within w)
window_repeats w = record { repeated = λ g x e. or_left (misfits w g x) (is_late w g x) (or_left (repeats g x) (w.in_order && falls_back g x) e) }

-- ---- the first group

is_last : (ends : EndTest) (f : Frame) (prefix rest : List Frame) → HasEnded ends (f ∷ prefix) rest → cut_from ends (f ∷ prefix) rest ≡ (f ∷ prefix) ∷ cut ends rest
unfolding cut
is_last ends f prefix [] ended = refl
is_last ends f prefix (x ∷ rest) ended = ap (λ b. cond b ((f ∷ prefix) ∷ cut_from ends (x ∷ []) rest) (cut_from ends ((f ∷ prefix) ++ x ∷ []) rest)) ended

-- no shorter prefix of a group has ended
abbrev NoneEnds : EndTest → List Frame → Type 0
NoneEnds ends group = (f g : Frame) (prefix back : List Frame) → group ≡ (f ∷ prefix) ++ (g ∷ back) → closes ends (f ∷ prefix) g ≡ false

goes_on : (ends : EndTest) (f : Frame) (prefix more rest group : List Frame) → group ≡ (f ∷ prefix) ++ more → NoneEnds ends group → HasEnded ends group rest → cut_from ends (f ∷ prefix) (more ++ rest) ≡ group ∷ cut ends rest
goes_on ends f prefix [] rest group e none ended = grind (arith, append-nil, is_last)
goes_on ends f prefix (x ∷ more) rest group e none ended = grind (arith, goes_on ends f (prefix ++ x ∷ []) more rest group (e ∙ sym (append_assoc (f ∷ prefix) (x ∷ []) more)) none ended)

pub first_follows : (ends : EndTest) (fs group rest : List Frame) → IsFirstGroup ends fs group rest → cut ends fs ≡ group ∷ cut ends rest
unfolding cut
first_follows ends fs group rest is = ap (cut ends) is.joined ∙ by group refl is.nonempty
  where
    by : (g : List Frame) → group ≡ g → 0 < length g → cut ends (group ++ rest) ≡ group ∷ cut ends rest
    by [] e some = absurd (omega (arith, some))
    by (f ∷ more) e some = ap (λ g. cut ends (g ++ rest)) e ∙ goes_on ends f [] more rest group e is.shortest is.ended

-- a list is empty, or it has a last item
record HasLast (xs : List Frame) : Type 0 where
  before : List Frame
  last : Frame
  is : xs ≡ before ++ last ∷ []

last_or_none : (xs : List Frame) → (xs ≡ []) ⊎ HasLast xs
last_or_none [] = inl refl
last_or_none (x ∷ xs) = by (last_or_none xs)
  where
    by : (xs ≡ []) ⊎ HasLast xs → (x ∷ xs ≡ []) ⊎ HasLast (x ∷ xs)
    by (inl e) = inr (record { before = []; last = x; is = ap (λ t. x ∷ t) e })
    by (inr h) = inr (record { before = x ∷ h.before; last = h.last; is = ap (λ t. x ∷ t) h.is })

none_more : (ends : EndTest) (f : Frame) (prefix : List Frame) (x : Frame) → NoneEnds ends (f ∷ prefix) → closes ends (f ∷ prefix) x ≡ false → NoneEnds ends ((f ∷ prefix) ++ x ∷ [])
none_more ends f prefix x none open_still h g before back e = by (last_or_none back)
  where
    by : (back ≡ []) ⊎ HasLast back → closes ends (h ∷ before) g ≡ false
    by (inl is) = grind (arith, same_from_push)
    by (inr l) = grind (arith, same_from_push (f ∷ prefix) ((h ∷ before) ++ (g ∷ l.before)) x l.last (e ∙ ap (λ t. (h ∷ before) ++ (g ∷ t)) l.is ∙ sym (append_assoc (h ∷ before) (g ∷ l.before) (l.last ∷ []))))

none_alone : (ends : EndTest) (f : Frame) → NoneEnds ends (f ∷ [])
none_alone ends f h g before back e = absurd (omega (arith, ap length e, length-append (h ∷ before) (g ∷ back)))

first_from : (ends : EndTest) (f : Frame) (prefix rest : List Frame) → NoneEnds ends (f ∷ prefix) → HasFirstGroup ends ((f ∷ prefix) ++ rest)
first_from ends f prefix [] none = record { group = f ∷ prefix; rest = []; is = record { joined = refl; nonempty = omega arith; ended = tt; shortest = none } }
first_from ends f prefix (x ∷ rest) none = by (closes ends (f ∷ prefix) x) refl (first_from ends f (prefix ++ x ∷ []) rest)
  where
    by : (b : Bool) → closes ends (f ∷ prefix) x ≡ b → (NoneEnds ends ((f ∷ prefix) ++ x ∷ []) → HasFirstGroup ends (((f ∷ prefix) ++ x ∷ []) ++ rest)) → HasFirstGroup ends ((f ∷ prefix) ++ (x ∷ rest))
    by true e later = record { group = f ∷ prefix; rest = x ∷ rest; is = record { joined = refl; nonempty = omega arith; ended = e; shortest = none } }
    by false e later = subst (HasFirstGroup ends) (append_assoc (f ∷ prefix) (x ∷ []) rest) (later (none_more ends f prefix x none e))

pub cut_first : (ends : EndTest) (fs : List Frame) → CutFirst ends fs
unfolding cut
cut_first ends fs = record { none = refl; begins = begins fs; follows = first_follows ends fs }
  where
    begins : (fs : List Frame) → 0 < length fs → HasFirstGroup ends fs
    begins [] some = absurd (omega (arith, some))
    begins (f ∷ fs) some = first_from ends f [] fs (none_alone ends f)

-- ---- with a frame more

grown-stays : (ends : EndTest) (gs : List (List Frame)) (x : Frame) (i : ℕ) (g : List Frame) → slice_get gs i ≡ Some g → IsSettled gs i g → slice_get (grown ends gs x) i ≡ Some g
grown-stays ends [] x i g e settled = absurd (none-some g e)
grown-stays ends (h ∷ []) x zero g e settled = grind (arith, or_left)
grown-stays ends (h ∷ []) x (suc i) g e settled = absurd (none-some g e)
grown-stays ends (h ∷ k ∷ gs) x zero g e settled = e
grown-stays ends (h ∷ k ∷ gs) x (suc i) g e settled = grown-stays ends (k ∷ gs) x i g e (by settled)
  where
    by : (complete g ≡ true) ⊎ (suc i + 1 < length (h ∷ k ∷ gs)) → (complete g ≡ true) ⊎ (i + 1 < length (k ∷ gs))
    by h = grind arith

grown-length : (ends : EndTest) (gs : List (List Frame)) (x : Frame) → length gs ≤ length (grown ends gs x)
grown-length ends [] x = omega arith
grown-length ends (g ∷ []) x = grind (arith)
grown-length ends (g ∷ h ∷ gs) x = omega (arith, grown-length ends (h ∷ gs) x)

grown-begins : (ends : EndTest) (gs : List (List Frame)) (x : Frame) (i : ℕ) (g : List Frame) → AreGroups gs → slice_get gs i ≡ Some g → option_map first (slice_get (grown ends gs x) i) ≡ Some (first g)
grown-begins ends [] x i g some e = absurd (none-some g e)
grown-begins ends ([] ∷ gs) x i g some e = absurd (omega (arith, some.0))
grown-begins ends ((f ∷ h) ∷ []) x zero g some e = grind (arith)
grown-begins ends ((f ∷ h) ∷ []) x (suc i) g some e = absurd (none-some g e)
grown-begins ends ((f ∷ h) ∷ k ∷ gs) x zero g some e = ap (option_map first) e
grown-begins ends ((f ∷ h) ∷ k ∷ gs) x (suc i) g some e = grown-begins ends (k ∷ gs) x i g some.1 e

grows-push : (ends : EndTest) (fs : List Frame) (x : Frame) → CutGrows ends fs (x ∷ [])
grows-push ends fs x = record {
  stays = λ place group at settled. ap (λ gs. slice_get gs place) (cut-push ends fs x) ∙ grown-stays ends (cut ends fs) x place group at settled;
  begins = λ place group at. ap (λ gs. option_map first (slice_get gs place)) (cut-push ends fs x) ∙ grown-begins ends (cut ends fs) x place group (cut-nonempty ends fs) at;
  no_fewer = omega (arith, grown-length ends (cut ends fs) x, ap length (cut-push ends fs x));
}

pub cut_grows : (ends : EndTest) (fs back : List Frame) → CutGrows ends fs back
cut_grows ends fs [] = grind (arith, append-nil)
cut_grows ends fs (x ∷ back) =
    let one = grows-push ends fs x in
    let rest = cut_grows ends (fs ++ x ∷ []) back in
    let same : fs ++ (x ∷ back) ≡ (fs ++ x ∷ []) ++ back = sym (append_assoc fs (x ∷ []) back) in
    record {
      stays = λ place group at settled. ap (λ all. slice_get (cut ends all) place) same ∙ rest.stays place group (one.stays place group at settled) (still place group one settled);
      begins = λ place group at. ap (λ all. option_map first (slice_get (cut ends all) place)) same ∙ begun place (first group) (slice_get (cut ends (fs ++ x ∷ [])) place) rest refl (one.begins place group at);
      no_fewer = omega (arith, one.no_fewer, rest.no_fewer, ap (λ all. length (cut ends all)) same);
    }
  where
    still : (place : ℕ) (group : List Frame) → CutGrows ends fs (x ∷ []) → IsSettled (cut ends fs) place group → IsSettled (cut ends (fs ++ x ∷ [])) place group
    still place group one h = grind arith

    begun : (place line : ℕ) (o : Option (List Frame)) → CutGrows ends (fs ++ x ∷ []) back → slice_get (cut ends (fs ++ x ∷ [])) place ≡ o → option_map first o ≡ Some line
        → option_map first (slice_get (cut ends ((fs ++ x ∷ []) ++ back)) place) ≡ Some line
    begun place line o rest e f = grind arith

-- ---- more lines after the first lines of a log

pub settles : (w : Window) → 0 < w.lines → (kind : ℕ → Option Kind) (prefix back : List Entry) → HasSettled w kind prefix back
settles w some kind prefix [] = grind (arith, append-nil)
settles w some kind prefix (e ∷ back) = grind (arith, settles w some kind (prefix ++ e ∷ []) back, append_assoc prefix (e ∷ []) back, length-append prefix (e ∷ []), message-before, broken-before)
