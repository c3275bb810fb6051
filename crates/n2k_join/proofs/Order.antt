-- The open groups in their list: its places, and the change by each step.
use Rattle.std.proofs.Common.{◌≡◌, ℕ, zero, suc, ◌+◌, ◌<◌, ◌≤◌, ◌==◌, ◌⊎◌, inl, inr, cond, List, [], ◌∷◌, ◌++◌, length, map, take, slice_get, slice_set, swap_remove, refl, sym, ap, ◌∙◌, subst, arith, Option, Some, None, IfSome, option_map, is_some}
use mathlib.Core.Path.{fun_ext}
use Rattle.std.specs.List.{cons_option}
use Rattle.std.specs.Option.{option_map_or}
use Rattle.std.proofs.lemmas.Bool.{cases_eq, eq-eqb, ne_eqb, cases_lt}
use Rattle.std.proofs.lemmas.Option.{none-some, same_Some, slice_get_past, slice_get-get_or}
use Rattle.std.proofs.lemmas.List.Elements.{filter_map-append}
use Rattle.std.proofs.lemmas.List.{length-append, length-map}
use Rattle.std.specs.Map.{values_of}
use Rattle.indexmap.specs.IndexMap.{set_value_at}
use Rattle.indexmap.specs.Layout.{length-set_value_at}
use Rattle.n2k_join.specs.declared.piece.FrameKey.{FrameKey}
use Rattle.n2k_join.specs.declared.piece.OpenGroup.{OpenGroup}
use Rattle.n2k_join.specs.declared.open_groups.Linked.{Linked}
use Rattle.n2k_join.specs.declared.open_groups.OpenGroups.{OpenGroups}
use Rattle.n2k_join.specs.Open.{Group}
use Rattle.n2k_join.specs.Inner.Slots.{group_at}
use Rattle.n2k_join.specs.Inner.Places.{nowhere, Path, times, AreLinked, put}
use Rattle.n2k_join.specs.Inner.Order.{Entries, item, item_in, item_at, IsPlace, beside, after_of, before_of, places_from, places, groups_at, listed, RiseBelow, IsKept, AreRelinked}
use Rattle.n2k_join.proofs.Places.{times-here, unlinked, pushed, renamed, dropped, moved, in-list, no-loop}

pub there : {X : Type 0} (xs : List X) (i : ℕ) → i < length xs → (x : X) × (slice_get xs i ≡ Some x)
there [] i l = absurd (omega (arith, l))
there (x ∷ xs) zero l = (x, refl)
there (x ∷ xs) (suc i) l = there xs i (omega (arith, l))

-- ---- the places beside a place

module _ (side : Linked → ℕ) (end : ℕ) (es : Entries) where
  pub beside-at : (at : ℕ) (e : FrameKey × Linked) → (at ≡ nowhere → ⊥) → slice_get es at ≡ Some e → beside side end es at ≡ side e.1
  beside-at at e other is = grind arith

  -- beside a place without an entry: itself
  pub beside-past : (at : ℕ) → (at ≡ nowhere → ⊥) → length es ≤ at → beside side end es at ≡ at
  beside-past at other past = grind (arith, slice_get_past)

  pub beside-same : (end' : ℕ) (es' : Entries) (at : ℕ) → (at ≡ nowhere → ⊥) → slice_get es' at ≡ slice_get es at → beside side end' es' at ≡ beside side end es at
  beside-same end' es' at other same = grind arith

  -- another end
  pub beside-end : (to at : ℕ) → beside side to es at ≡ put nowhere to (beside side end es) at
  beside-end to at = grind arith

-- A place to which another one leads is one.
pub leads-place : (n at to : ℕ) (f : ℕ → ℕ) → ((j : ℕ) → (j ≡ nowhere → ⊥) → n ≤ j → f j ≡ j) → f at ≡ to → IsPlace n to → IsPlace n at
leads-place n at to f fixed leads is = grind arith

pub later-place : (n m at : ℕ) → n ≤ m → IsPlace n at → IsPlace m at
later-place n m at l h = grind arith

-- the places beside places of the list are places
module _ (next : ℕ) (g : OpenGroups) (kept : IsKept next g) where
  pub before-place : (at : ℕ) → IsPlace (length g.groups.entries) at → IsPlace (length g.groups.entries) (before_of g at)
  before-place at is = grind (arith, beside-past)

  pub after-place : (at : ℕ) → IsPlace (length g.groups.entries) at → IsPlace (length g.groups.entries) (after_of g at)
  after-place at is = leads-place (length g.groups.entries) (after_of g at) at (before_of g) (λ j o p. beside-past (λ l. l.before) g.last g.groups.entries j o p) (kept.linked.back at (not-count is)).0 is
    where
      not-count : IsPlace (length g.groups.entries) at → at ≡ length g.groups.entries → ⊥
      not-count h e = grind arith

-- ---- an entry written

slot-here : (es : Entries) (i : ℕ) (k : FrameKey) (v w : Linked) → slice_get es i ≡ Some (k, v) → slice_get (set_value_at es i w) i ≡ Some (k, w)
slot-here [] i k v w e = absurd (none-some (k, v) e)
slot-here (e ∷ es) zero k v w h = ap (λ (p : FrameKey × Linked). Some (p.0, w)) (same_Some e (k, v) h)
slot-here (e ∷ es) (suc i) k v w h = slot-here es i k v w h

slot-other : (es : Entries) (i : ℕ) (w : Linked) (j : ℕ) → (j ≡ i → ⊥) → slice_get (set_value_at es i w) j ≡ slice_get es j
slot-other [] i w j n = refl
slot-other (e ∷ es) zero w zero n = absurd (n refl)
slot-other (e ∷ es) zero w (suc j) n = refl
slot-other (e ∷ es) (suc i) w zero n = refl
slot-other (e ∷ es) (suc i) w (suc j) n = slot-other es i w j (λ s. n (ap suc s))

module _ (es : Entries) (at : ℕ) (k : FrameKey) (v w : Linked) (is : slice_get es at ≡ Some (k, v)) (inside : at ≡ nowhere → ⊥) where
  pub beside-written : (side : Linked → ℕ) (end j : ℕ) → beside side end (set_value_at es at w) j ≡ put at (side w) (beside side end es) j
  beside-written side end j = grind (arith, slot-here, slot-other)

  -- beside an entry with the same place on a side: unchanged
  pub beside-kept : (side : Linked → ℕ) (end j : ℕ) → side w ≡ side v → beside side end (set_value_at es at w) j ≡ beside side end es j
  beside-kept side end j same = grind (arith, beside-written)

  pub item-here : item_in (set_value_at es at w) at ≡ Some (k, w.group)
  item-here = ap (option_map item) (slot-here es at k v w is)

  pub item-other : (j : ℕ) → (j ≡ at → ⊥) → item_in (set_value_at es at w) j ≡ item_in es j
  item-other j e = ap (option_map item) (slot-other es at w j e)

  pub item-kept : (j : ℕ) → w.group ≡ v.group → item_in (set_value_at es at w) j ≡ item_in es j
  item-kept j same = grind (arith, item-here, item-other)

-- ---- the list

places-are : (es : Entries) (end a : ℕ) (order : List ℕ) (n : ℕ) → length es < nowhere → ((at : ℕ) → 0 < times at order → at < length es) → length order ≤ n
    → Path (beside (λ l. l.after) end es) a order nowhere → places_from es n (beside (λ l. l.after) end es a) ≡ order
places-are es end a [] n few within l h = ap (places_from es n) h ∙ none n
  where
    none : (n : ℕ) → places_from es n nowhere ≡ []
    none zero = refl
    none (suc n) = ap (λ o. option_map_or (λ (e : FrameKey × Linked). nowhere ∷ places_from es n e.1.after) o []) (slice_get_past es nowhere (omega (arith, few)))
places-are es end a (p ∷ ps) zero few within l h = absurd (omega (arith, l))
places-are es end a (p ∷ ps) (suc n) few within l h = grind (arith, places-are es end p ps n few (λ at more. within at (omega (arith, more))) (omega (arith, l)) h.1, times-here p ps, there es p (within p (omega (arith, times-here p ps))))

-- a linked list is the list
pub kept-by : (next : ℕ) (g : OpenGroups) (order : List ℕ) → length g.groups.entries < nowhere → AreLinked (length g.groups.entries) (length g.groups.entries) (after_of g) (before_of g) order
    → length order ≡ length g.groups.entries → RiseBelow 1 next (groups_at (item_at g) order) → IsKept next g × (listed g ≡ groups_at (item_at g) order)
kept-by next g order few linked counted rise = grind (arith, places-are g.groups.entries g.first nowhere order (length g.groups.entries) few (λ at more. (linked.within at more).0) (omega (arith, counted)) linked.path)

-- ---- the groups at places

pub groups-append : (items : ℕ → Option (FrameKey × OpenGroup)) (xs ys : List ℕ) → groups_at items (xs ++ ys) ≡ groups_at items xs ++ groups_at items ys
groups-append items xs ys = filter_map-append (λ at. option_map group_at (items at)) xs ys

pub groups-same : (items items' : ℕ → Option (FrameKey × OpenGroup)) (xs : List ℕ) → ((at : ℕ) → 0 < times at xs → items' at ≡ items at) → groups_at items' xs ≡ groups_at items xs
groups-same items items' [] same = refl
groups-same items items' (x ∷ xs) same =
    λ i. cons_option (option_map group_at (same x (omega (arith, times-here x xs)) i)) (groups-same items items' xs (λ at more. same at (omega (arith, more))) i)

pub groups-renamed : (items items' : ℕ → Option (FrameKey × OpenGroup)) (r : ℕ → ℕ) (xs : List ℕ) → ((at : ℕ) → 0 < times at xs → items' (r at) ≡ items at) → groups_at items' (map r xs) ≡ groups_at items xs
groups-renamed items items' r [] same = refl
groups-renamed items items' r (x ∷ xs) same =
    λ i. cons_option (option_map group_at (same x (omega (arith, times-here x xs)) i)) (groups-renamed items items' r xs (λ at more. same at (omega (arith, more))) i)

-- ---- lines that rise

pub rise-later : (least next more : ℕ) (gs : List Group) → next ≤ more → RiseBelow least next gs → RiseBelow least more gs
rise-later least next more [] l r = omega (arith, r)
rise-later least next more (g ∷ gs) l r = (r.0, rise-later (g.first + 1) next more gs l r.1)

rise-lower : (less least next : ℕ) (gs : List Group) → less ≤ least → RiseBelow least next gs → RiseBelow less next gs
rise-lower less least next [] l r = omega (arith, r)
rise-lower less least next (g ∷ gs) l r = (omega (arith, r.0), r.1)

pub rise-push : (least next : ℕ) (gs : List Group) (g : Group) → g.first ≡ next → RiseBelow least next gs → RiseBelow least (next + 1) (gs ++ g ∷ [])
rise-push least next [] g e r = (omega (arith, e, r), omega (arith, e))
rise-push least next (h ∷ gs) g e r = (r.0, rise-push (h.first + 1) next gs g e r.1)

pub rise-without : (least next : ℕ) (fs : List Group) (g : Group) (gs : List Group) → RiseBelow least next (fs ++ g ∷ gs) → RiseBelow least next (fs ++ gs)
rise-without least next [] g gs r = rise-lower least (g.first + 1) next gs (omega (arith, r.0)) r.1
rise-without least next (f ∷ fs) g gs r = (r.0, rise-without (f.first + 1) next fs g gs r.1)

pub rise-instead : (least next : ℕ) (fs : List Group) (g h : Group) (gs : List Group) → h.first ≡ g.first → RiseBelow least next (fs ++ g ∷ gs) → RiseBelow least next (fs ++ h ∷ gs)
rise-instead least next [] g h gs e r = (omega (arith, e, r.0), subst (λ n. RiseBelow (n + 1) next gs) (sym e) r.1)
rise-instead least next (f ∷ fs) g h gs e r = (r.0, rise-instead (f.first + 1) next fs g h gs e r.1)

pub kept-later : (next more : ℕ) (g : OpenGroups) → next ≤ more → IsKept next g → IsKept more g
kept-later next more g l kept = record { few = kept.few; linked = kept.linked; counted = kept.counted; rise = rise-later 1 next more (listed g) l kept.rise }

pub kept_next : (next : ℕ) (g : OpenGroups) → IsKept next g → IsKept (next + 1) g
kept_next next g kept = kept-later next (next + 1) g (omega arith) kept

-- ---- an entry more, and one less

pub slice_get-push : {X : Type 0} (xs : List X) (x : X) → slice_get (xs ++ x ∷ []) (length xs) ≡ Some x
slice_get-push [] x = refl
slice_get-push (y ∷ xs) x = slice_get-push xs x

pub slice_get-prefix : {X : Type 0} (xs : List X) (x : X) (j : ℕ) → j < length xs → slice_get (xs ++ x ∷ []) j ≡ slice_get xs j
slice_get-prefix [] x j l = absurd (omega (arith, l))
slice_get-prefix (y ∷ xs) x zero l = refl
slice_get-prefix (y ∷ xs) x (suc j) l = slice_get-prefix xs x j (omega (arith, l))

slice_get-take : {X : Type 0} (n : ℕ) (xs : List X) (j : ℕ) → j < n → slice_get (take n xs) j ≡ slice_get xs j
slice_get-take zero xs j l = absurd (omega (arith, l))
slice_get-take (suc n) [] j l = refl
slice_get-take (suc n) (x ∷ xs) zero l = refl
slice_get-take (suc n) (x ∷ xs) (suc j) l = slice_get-take n xs j (omega (arith, l))

slice_get-set : {X : Type 0} (xs : List X) (i : ℕ) (y : X) → i < length xs → slice_get (slice_set xs i y) i ≡ Some y
slice_get-set [] i y l = absurd (omega (arith, l))
slice_get-set (x ∷ xs) zero y l = refl
slice_get-set (x ∷ xs) (suc i) y l = slice_get-set xs i y (omega (arith, l))

slice_get-set_other : {X : Type 0} (xs : List X) (i : ℕ) (y : X) (j : ℕ) → (j ≡ i → ⊥) → slice_get (slice_set xs i y) j ≡ slice_get xs j
slice_get-set_other [] i y j n = refl
slice_get-set_other (x ∷ xs) zero y zero n = absurd (n refl)
slice_get-set_other (x ∷ xs) zero y (suc j) n = refl
slice_get-set_other (x ∷ xs) (suc i) y zero n = refl
slice_get-set_other (x ∷ xs) (suc i) y (suc j) n = slice_get-set_other xs i y j (λ s. n (ap suc s))

-- Entries after one was removed and the last took its place.
pub record AreLeft (es es' : Entries) (m p : ℕ) : Type 0 where
  pub was : length es ≡ suc m
  pub is : length es' ≡ m
  pub here : p < m → slice_get es' p ≡ slice_get es m
  pub others : (j : ℕ) → (j ≡ p → ⊥) → (j ≡ m → ⊥) → slice_get es' j ≡ slice_get es j

pub are-left : (es : Entries) (m p : ℕ) (d : FrameKey × Linked) → length es ≡ suc m → p < suc m → length (swap_remove es p d) ≡ m → AreLeft es (swap_remove es p d) m p
are-left es m p d was low is = grind (arith, slice_get-take, slice_get-set, slice_get-get_or, slice_get-set_other, slice_get_past)

-- as the map leaves them
pub removed-left : (es es' : Entries) (p : ℕ) → p < length es → (o : Option (FrameKey × Linked)) → o ≡ slice_get es p → IfSome o (λ d. es' ≡ swap_remove es p d) → length es' + cond (is_some o) 1 0 ≡ length es → AreLeft es es' (length es') p
removed-left es es' p low o at left len =
    let d = there es p low in
    let is = subst (λ o. IfSome o (λ d. es' ≡ swap_remove es p d)) (at ∙ d.1) left in
    let was : length es ≡ suc (length es') = omega (arith, subst (λ o. length es' + cond (is_some o) 1 0 ≡ length es) (at ∙ d.1) len) in
    subst (λ zs. AreLeft es zs (length es') p) (sym is) (are-left es (length es') p d.0 was (omega (arith, low, was)) (ap length (sym is)))

pub ended-last : (es es' : Entries) (p m : ℕ) → p < length es → AreLeft es es' m p → slice_get es' p ≡ None → p ≡ m
ended-last es es' p m low left none = by (cases_lt p m)
  where
    by : (p < m) ⊎ (m ≤ p) → p ≡ m
    by (inl l) = let d = there es' p (omega (arith, l, left.is)) in absurd (none-some d.0 (sym none ∙ d.1))
    by (inr l) = omega (arith, l, low, left.was)

-- ---- a group put last

-- The group at p becomes the last: its entry, the former last entry and the end are linked so.
pub at-end : (next : ℕ) (f g : ℕ → ℕ) (s r : OpenGroups) (p : ℕ) (order : List ℕ) (items : ℕ → Option (FrameKey × OpenGroup)) (e : FrameKey × OpenGroup)
    → p < length s.groups.entries → length s.groups.entries < nowhere → (f (length s.groups.entries) ≡ length s.groups.entries) × (g (length s.groups.entries) ≡ length s.groups.entries)
    → AreLinked (length s.groups.entries) p f g order → 1 + length order ≡ length s.groups.entries
    → ((j : ℕ) → after_of s j ≡ put p nowhere f j) → ((j : ℕ) → before_of s j ≡ put p (g nowhere) g j)
    → ((j : ℕ) → (j ≡ p → ⊥) → item_at s j ≡ items j) → item_at s p ≡ Some e → e.1.first ≡ next → RiseBelow 1 next (groups_at items order)
    → AreRelinked s r (put (g nowhere) p (after_of s)) (before_of s)
    → IsKept (next + 1) (record r { last = p }) × (listed (record r { last = p }) ≡ groups_at items order ++ group_at e ∷ [])
at-end next f g s r p order items e low few fix linked counted after before others here first rise told =
    let n = length s.groups.entries in
    let t : OpenGroups = record r { last = p } in
    let l = pushed n f g p order low few fix.0 fix.1 linked in
    let afters : put (g nowhere) p (put p nowhere f) ≡ after_of t = fun_ext (λ j. ap (λ q. cond (j == g nowhere) p q) (sym (after j)) ∙ sym (told.after j)) in
    let befores : put nowhere p (put p (g nowhere) g) ≡ before_of t = fun_ext (λ j. ap (λ q. cond (j == nowhere) p q) (sym (told.before j ∙ before j)) ∙ sym (beside-end (λ l. l.before) r.last r.groups.entries p j)) in
    let l' = subst (λ h. AreLinked n n h (before_of t) (order ++ p ∷ [])) afters (subst (λ h. AreLinked n n (put (g nowhere) p (put p nowhere f)) h (order ++ p ∷ [])) befores l) in
    let groups : groups_at (item_at t) (order ++ p ∷ []) ≡ groups_at items order ++ group_at e ∷ [] =
    groups-append (item_at t) order (p ∷ []) ∙ (λ i. groups-same items (item_at t) order (λ at more. told.items at ∙ others at (linked.within at more).1) i ++ cons_option (option_map group_at ((told.items p ∙ here) i)) []) in
    let k = kept-by (next + 1) t (order ++ p ∷ []) (omega (arith, few, told.count)) (subst (λ m. AreLinked m m (after_of t) (before_of t) (order ++ p ∷ [])) (sym told.count) l') (omega (arith, counted, told.count, length-append order (p ∷ []))) (subst (RiseBelow 1 (next + 1)) (sym groups) (rise-push 1 next (groups_at items order) (group_at e) first rise)) in
    (k.0, k.1 ∙ groups)

-- an entry more
module _ (es : Entries) (e : FrameKey × Linked) (few : length es < nowhere) where
  pub pushed-side : (side : Linked → ℕ) (end j : ℕ) → beside side end (es ++ e ∷ []) j ≡ put (length es) (side e.1) (beside side end es) j
  pushed-side side end j = grind (arith, slice_get-push, slice_get-prefix, beside-past, length-append)

  pub pushed-here : item_in (es ++ e ∷ []) (length es) ≡ Some (item e)
  pushed-here = ap (option_map item) (slice_get-push es e)

  pub pushed-other : (j : ℕ) → (j ≡ length es → ⊥) → item_in (es ++ e ∷ []) j ≡ item_in es j
  pushed-other j q = grind (arith, slice_get-prefix, slice_get_past, length-append)

-- the last entry, written anew
pub last-value : (es zs : Entries) (k : FrameKey) (v : Linked) (at : ℕ) → at ≡ length es → zs ≡ es ++ (k, v) ∷ [] → slice_get (values_of zs) at ≡ Some v
last-value es zs k v at here is = (λ i. slice_get (values_of (is i)) (here i)) ∙ by es
  where
    by : (es : Entries) → slice_get (values_of (es ++ (k, v) ∷ [])) (length es) ≡ Some v
    by [] = refl
    by (e ∷ es) = by es

pub last-written : (es zs : Entries) (k : FrameKey) (v w : Linked) (at : ℕ) → at ≡ length es → zs ≡ es ++ (k, v) ∷ [] → set_value_at zs at w ≡ es ++ (k, w) ∷ []
last-written es zs k v w at here is = (λ i. set_value_at (is i) (here i) w) ∙ by es
  where
    by : (es : Entries) → set_value_at (es ++ (k, v) ∷ []) (length es) w ≡ es ++ (k, w) ∷ []
    by [] = refl
    by (e ∷ es) = ap (λ zs. e ∷ zs) (by es)

-- a group of a key that has none
pub inserted : (next : ℕ) (g s r : OpenGroups) (k : FrameKey) (l : Linked) (at : ℕ) → at ≡ length g.groups.entries → IsKept next g → s.groups.entries ≡ g.groups.entries ++ (k, l) ∷ [] → s.first ≡ g.first → s.last ≡ g.last → length s.groups.entries < nowhere
    → l.before ≡ g.last → l.after ≡ nowhere → l.group.first ≡ next → AreRelinked s r (put g.last at (after_of s)) (before_of s)
    → IsKept (next + 1) (record r { last = at }) × (listed (record r { last = at }) ≡ listed g ++ group_at (k, l.group) ∷ [])
inserted next g s r k l at here kept is fs ls few before after first =
    let n = length g.groups.entries in
    let more : length s.groups.entries ≡ suc n = omega (arith, ap length is, length-append g.groups.entries ((k, l) ∷ [])) in
    subst (λ a. AreRelinked s r (put g.last a (after_of s)) (before_of s) → IsKept (next + 1) (record r { last = a }) × (listed (record r { last = a }) ≡ listed g ++ group_at (k, l.group) ∷ [])) (sym here)
    (at-end next (after_of g) (before_of g) s r n (places g) (item_at g) (k, l.group) (omega (arith, more)) few
    (beside-past (λ l. l.after) g.first g.groups.entries (length s.groups.entries) (λ e. omega (arith, few, e)) (omega (arith, more)), beside-past (λ l. l.before) g.last g.groups.entries (length s.groups.entries) (λ e. omega (arith, few, e)) (omega (arith, more)))
    (subst (λ m. AreLinked m n (after_of g) (before_of g) (places g)) (sym more) (record {
      path = kept.linked.path;
      back = kept.linked.back;
      forth = kept.linked.forth;
      within = λ at some. let h = kept.linked.within at some in (omega (arith, h.0), h.1);
      once = λ at less other. kept.linked.once at (below at less other (cases_lt at n)) other;
    })) (omega (arith, kept.counted, more))
    (λ j. (λ i. beside (λ l. l.after) (fs i) (is i) j) ∙ pushed-side g.groups.entries (k, l) kept.few (λ l. l.after) g.first j ∙ ap (λ q. cond (j == n) q (after_of g j)) after)
    (λ j. (λ i. beside (λ l. l.before) (ls i) (is i) j) ∙ pushed-side g.groups.entries (k, l) kept.few (λ l. l.before) g.last j ∙ ap (λ q. cond (j == n) q (before_of g j)) before)
    (λ j q. ap (λ es. item_in es j) is ∙ pushed-other g.groups.entries (k, l) kept.few j q) (ap (λ es. item_in es n) is ∙ pushed-here g.groups.entries (k, l) kept.few) first kept.rise)
  where
    below : (at : ℕ) → at < suc (length g.groups.entries) → (at ≡ length g.groups.entries → ⊥) → (at < length g.groups.entries) ⊎ (length g.groups.entries ≤ at) → at < length g.groups.entries
    below at less other h = grind arith

-- an empty list
pub empty-kept : (g : OpenGroups) → g.groups.entries ≡ [] → g.first ≡ nowhere → g.last ≡ nowhere → (listed g ≡ []) × ((next : ℕ) → 0 < next → IsKept next g)
empty-kept g none first last = grind arith

-- the number of listed groups is the number of places
pub length-listed : (next : ℕ) (g : OpenGroups) → IsKept next g → length (listed g) ≡ length g.groups.entries
length-listed next g kept = by (places g) (λ at more. (kept.linked.within at more).0) ∙ kept.counted
  where
    by : (ps : List ℕ) → ((at : ℕ) → 0 < times at ps → at < length g.groups.entries) → length (groups_at (item_at g) ps) ≡ length ps
    by [] low = refl
    by (p ∷ ps) low = grind (arith, by ps (λ at more. low at (omega (arith, more))), there g.groups.entries p (low p (omega (arith, times-here p ps))))

-- ---- a group taken out of the list

module _ (next : ℕ) (g s : OpenGroups) (at : ℕ) (xs ys : List ℕ) (kept : IsKept next g) (low : at < length g.groups.entries) (is : places g ≡ xs ++ at ∷ ys) where
  abbrev n : ℕ
  n = length g.groups.entries

  fixed : (side : Linked → ℕ) (end : ℕ) → beside side end g.groups.entries n ≡ n
  fixed side end = beside-past side end g.groups.entries n (λ e. omega (arith, kept.few, e)) (omega arith)

  linked-here : AreLinked n n (after_of g) (before_of g) (xs ++ at ∷ ys)
  linked-here = subst (AreLinked n n (after_of g) (before_of g)) is kept.linked

  -- the list with it
  pub listed-split : (e : FrameKey × OpenGroup) → item_at g at ≡ Some e → listed g ≡ groups_at (item_at g) xs ++ group_at e ∷ groups_at (item_at g) ys
  listed-split e there = ap (groups_at (item_at g)) is ∙ groups-append (item_at g) xs (at ∷ ys) ∙ ap (λ o. groups_at (item_at g) xs ++ cons_option (option_map group_at o) (groups_at (item_at g) ys)) there

  pub rise-left : RiseBelow 1 next (groups_at (item_at g) xs ++ groups_at (item_at g) ys)
  rise-left =
      let e = there g.groups.entries at low in
      rise-without 1 next (groups_at (item_at g) xs) (group_at (item e.0)) (groups_at (item_at g) ys) (subst (RiseBelow 1 next) (listed-split (item e.0) (ap (option_map item) e.1)) kept.rise)

  pub counted-left : 1 + length (xs ++ ys) ≡ n
  counted-left = omega (arith, kept.counted, ap length is, length-append xs ys, length-append xs (at ∷ ys))

  module _ (r : AreRelinked g s (put (before_of g at) (after_of g at) (after_of g)) (put (after_of g at) (before_of g at) (before_of g))) where
    pub linked-left : AreLinked n at (after_of s) (before_of s) (xs ++ ys)
    linked-left =
        subst (λ h. AreLinked n at h (before_of s) (xs ++ ys)) (sym (fun_ext r.after))
        (subst (λ h. AreLinked n at (put (before_of g at) (after_of g at) (after_of g)) h (xs ++ ys)) (sym (fun_ext r.before))
        (unlinked n (after_of g) (before_of g) xs at ys kept.few (fixed (λ l. l.after) g.first) (fixed (λ l. l.before) g.last) linked-here))

    pub groups-left : groups_at (item_at s) (xs ++ ys) ≡ groups_at (item_at g) xs ++ groups_at (item_at g) ys
    groups-left = groups-same (item_at g) (item_at s) (xs ++ ys) (λ j more. r.items j) ∙ groups-append (item_at g) xs ys

    -- the last of the others is a place
    pub last-place : IsPlace n s.last
    last-place = leads-place n s.last nowhere (after_of s) (λ j o p. beside-past (λ l. l.after) s.first s.groups.entries j o (omega (arith, p, r.count))) (linked-left.forth nowhere (λ e. omega (arith, low, kept.few, e))).0 (inr refl)

    -- another group of its key goes last
    pub replaced : (k : FrameKey) (v w : Linked) → slice_get s.groups.entries at ≡ Some (k, v) → (t u : OpenGroups) → t.groups.entries ≡ set_value_at s.groups.entries at w → t.first ≡ s.first → t.last ≡ s.last
        → w.before ≡ s.last → w.after ≡ nowhere → w.group.first ≡ next → AreRelinked t u (put s.last at (after_of t)) (before_of t)
        → IsKept (next + 1) (record u { last = at }) × (listed (record u { last = at }) ≡ (groups_at (item_at g) xs ++ groups_at (item_at g) ys) ++ group_at (k, w.group) ∷ [])
    replaced k v w there t u entries first last before after line told =
        let inside : at ≡ nowhere → ⊥ = λ e. omega (arith, low, kept.few, e) in
        let count : length t.groups.entries ≡ n = ap length entries ∙ length-set_value_at s.groups.entries at w ∙ r.count in
        let past = λ (side : Linked → ℕ) (end : ℕ). beside-past side end s.groups.entries (length t.groups.entries) (λ e. omega (arith, e, count, kept.few)) (omega (arith, count, r.count)) in
        let all = at-end next (after_of s) (before_of s) t u at (xs ++ ys) (item_at s) (k, w.group) (omega (arith, low, count)) (omega (arith, count, kept.few)) (past (λ l. l.after) s.first, past (λ l. l.before) s.last)
        (subst (λ m. AreLinked m at (after_of s) (before_of s) (xs ++ ys)) (sym count) linked-left) (omega (arith, counted-left, count))
        (λ j. (λ i. beside (λ l. l.after) (first i) (entries i) j) ∙ beside-written s.groups.entries at k v w there inside (λ l. l.after) s.first j ∙ ap (λ q. cond (j == at) q (after_of s j)) after)
        (λ j. (λ i. beside (λ l. l.before) (last i) (entries i) j) ∙ beside-written s.groups.entries at k v w there inside (λ l. l.before) s.last j ∙ ap (λ q. cond (j == at) q (before_of s j)) before)
        (λ j o. ap (λ es. item_in es j) entries ∙ item-other s.groups.entries at k v w there inside j o) (ap (λ es. item_in es at) entries ∙ item-here s.groups.entries at k v w there inside) line
        (subst (RiseBelow 1 next) (sym groups-left) rise-left) told in
        (all.0, all.1 ∙ ap (λ gs. gs ++ group_at (k, w.group) ∷ []) groups-left)

    -- the group is removed, and the last entry takes its place
    module _ (t : OpenGroups) (m : ℕ) (left : AreLeft s.groups.entries t.groups.entries m at) (first : t.first ≡ s.first) (last : t.last ≡ s.last) where
      many : n ≡ suc m
      many = sym r.count ∙ left.was

      small : suc m < nowhere
      small = omega (arith, kept.few, many)

      beside-others : (side : Linked → ℕ) (end end' j : ℕ) → end' ≡ end → (j ≡ at → ⊥) → (j ≡ m → ⊥) → beside side end' t.groups.entries j ≡ beside side end s.groups.entries j
      beside-others side end end' j same o o' = by (cases_eq j nowhere)
        where
          by : (j ≡ nowhere) ⊎ (j ≡ nowhere → ⊥) → beside side end' t.groups.entries j ≡ beside side end s.groups.entries j
          by (inl e) = ap (beside side end' t.groups.entries) e ∙ same ∙ sym (ap (beside side end s.groups.entries) e)
          by (inr e) = beside-same side end s.groups.entries end' t.groups.entries j e (left.others j o o')

      pub beside-moved : (side : Linked → ℕ) (end end' : ℕ) → at < m → beside side end' t.groups.entries at ≡ beside side end s.groups.entries m
      beside-moved side end end' less =
          let e = there s.groups.entries m (omega (arith, left.was)) in
          beside-at side end' t.groups.entries at e.0 (λ q. omega (arith, less, small, q)) (left.here less ∙ e.1)
          ∙ sym (beside-at side end s.groups.entries m e.0 (λ q. omega (arith, small, q)) e.1)

      pub gone-last : at ≡ m → IsKept next t × (listed t ≡ groups_at (item_at g) xs ++ groups_at (item_at g) ys)
      gone-last e =
          let l = dropped m (after_of s) (before_of s) (after_of t) (before_of t) (xs ++ ys) small
          (λ j o. beside-others (λ l. l.after) s.first t.first j first (λ q. o (q ∙ e)) o) (λ j o. beside-others (λ l. l.before) s.last t.last j last (λ q. o (q ∙ e)) o)
          (subst (λ k. AreLinked (suc m) k (after_of s) (before_of s) (xs ++ ys)) e (subst (λ k. AreLinked k at (after_of s) (before_of s) (xs ++ ys)) many linked-left)) in
          let groups = groups-same (item_at s) (item_at t) (xs ++ ys) (λ j more. ap (option_map item) (left.others j (linked-left.within j more).1 (λ q. (linked-left.within j more).1 (q ∙ sym e)))) ∙ groups-left in
          let k = kept-by next t (xs ++ ys) (omega (arith, small, left.is)) (subst (λ k. AreLinked k k (after_of t) (before_of t) (xs ++ ys)) (sym left.is) l) (omega (arith, counted-left, many, left.is)) (subst (RiseBelow 1 next) (sym groups) rise-left) in
          (k.0, k.1 ∙ groups)

      -- the places beside the last entry are places without it
      pub moved-places : at < m → IsPlace m (before_of s m) × IsPlace m (after_of s m)
      moved-places less = (
        place (before_of s) (after_of s) (λ j o p. beside-past (λ l. l.after) s.first s.groups.entries j o (omega (arith, p, left.was))) (linked-left.forth m other).0 (λ e. loop (sym (ap (after_of s) e) ∙ (linked-left.forth m other).0)),
        place (after_of s) (before_of s) (λ j o p. beside-past (λ l. l.before) s.last s.groups.entries j o (omega (arith, p, left.was))) (linked-left.back m other).0 loop,
      )
        where
          other : m ≡ at → ⊥
          other e = omega (arith, less, e)

          loop : after_of s m ≡ m → ⊥
          loop e = omega (arith, small, no-loop (after_of s) m nowhere (xs ++ ys) nowhere linked-left.path e (linked-left.once m (omega (arith, many)) other))

          place : (f h : ℕ → ℕ) → ((j : ℕ) → (j ≡ nowhere → ⊥) → suc m ≤ j → h j ≡ j) → h (f m) ≡ m → (f m ≡ m → ⊥) → IsPlace m (f m)
          place f h fix inverse never = by (cases_eq (f m) nowhere) (cases_lt (f m) m) (cases_lt m (f m))
            where
              by : (f m ≡ nowhere) ⊎ (f m ≡ nowhere → ⊥) → (f m < m) ⊎ (m ≤ f m) → (m < f m) ⊎ (f m ≤ m) → IsPlace m (f m)
              by (inl e) l q = inr e
              by (inr e) (inl l) q = inl l
              by (inr e) (inr l) (inl q) = absurd (never (sym (fix (f m) e (omega (arith, q))) ∙ inverse))
              by (inr e) (inr l) (inr q) = absurd (never (omega (arith, l, q)))

      pub gone-moved : (u : OpenGroups) → at < m → AreRelinked t u (put (before_of t at) at (after_of t)) (put (after_of t at) at (before_of t)) → IsKept next u × (listed u ≡ groups_at (item_at g) xs ++ groups_at (item_at g) ys)
      gone-moved u less told =
          let bm = beside-moved (λ l. l.before) s.last t.last less in
          let hm = beside-moved (λ l. l.after) s.first t.first less in
          let l = moved m (after_of s) (before_of s) (after_of t) (before_of t) (xs ++ ys) small at less
          hm (λ j o o'. beside-others (λ l. l.after) s.first t.first j first o o') bm (λ j o o'. beside-others (λ l. l.before) s.last t.last j last o o')
          (subst (λ k. AreLinked k at (after_of s) (before_of s) (xs ++ ys)) many linked-left) in
          let l' = subst (λ h. AreLinked m m h (before_of u) (map (renamed m at) (xs ++ ys))) (fun_ext (λ j. ap (λ q. put q at (after_of t) j) (sym bm) ∙ sym (told.after j)))
          (subst (λ h. AreLinked m m (put (before_of s m) at (after_of t)) h (map (renamed m at) (xs ++ ys))) (fun_ext (λ j. ap (λ q. put q at (before_of t) j) (sym hm) ∙ sym (told.before j))) l) in
          let groups = groups-renamed (item_at s) (item_at u) (renamed m at) (xs ++ ys) (λ j more. told.items (renamed m at j) ∙ named j (linked-left.within j more).1 (cases_eq j m)) ∙ groups-left in
          let k = kept-by next u (map (renamed m at) (xs ++ ys)) (omega (arith, small, left.is, told.count)) (subst (λ k. AreLinked k k (after_of u) (before_of u) (map (renamed m at) (xs ++ ys))) (sym (told.count ∙ left.is)) l')
          (omega (arith, counted-left, many, left.is, told.count, length-map (xs ++ ys) (renamed m at))) (subst (RiseBelow 1 next) (sym groups) rise-left) in
          (k.0, k.1 ∙ groups)
        where
          named : (j : ℕ) → (j ≡ at → ⊥) → (j ≡ m) ⊎ (j ≡ m → ⊥) → item_at t (renamed m at j) ≡ item_at s j
          named j o (inl e) = ap (item_at t) (ap (λ b. cond b at j) (eq-eqb j m e)) ∙ ap (option_map item) (left.here less) ∙ ap (item_at s) (sym e)
          named j o (inr e) = ap (item_at t) (ap (λ b. cond b at j) (ne_eqb j m e)) ∙ ap (option_map item) (left.others j o e)

-- ---- an entry with a new neighbour

pub entry-at : (es : Entries) (at : ℕ) (v : Linked) → slice_get (values_of es) at ≡ Some v → (k : FrameKey) × (slice_get es at ≡ Some (k, v))
entry-at [] at v h = absurd (none-some v h)
entry-at (e ∷ es) zero v h = (e.0, λ i. Some (e.0, same_Some e.1 v h i))
entry-at (e ∷ es) (suc at) v h = entry-at es at v h

module _ (g : OpenGroups) (at : ℕ) (k : FrameKey) (v w : Linked) (is : slice_get g.groups.entries at ≡ Some (k, v)) (inside : at ≡ nowhere → ⊥) (same : w.group ≡ v.group)
    (t : OpenGroups) (entries : t.groups.entries ≡ set_value_at g.groups.entries at w) (first : t.first ≡ g.first) (last : t.last ≡ g.last) where
  told-items : (j : ℕ) → item_at t j ≡ item_at g j
  told-items j = ap (λ es. item_in es j) entries ∙ item-kept g.groups.entries at k v w is inside j same

  told-side : (side : Linked → ℕ) (end end' j : ℕ) → end' ≡ end → beside side end' t.groups.entries j ≡ put at (side w) (beside side end g.groups.entries) j
  told-side side end end' j e = (λ i. beside side (e i) (entries i) j) ∙ beside-written g.groups.entries at k v w is inside side end j

  pub told-after : w.before ≡ v.before → AreRelinked g t (put at w.after (after_of g)) (before_of g)
  told-after s = grind (arith, length-set_value_at, told-items, told-side)

  pub told-before : w.after ≡ v.after → AreRelinked g t (after_of g) (put at w.before (before_of g))
  told-before s = grind (arith, length-set_value_at, told-items, told-side)

-- the group at a place is another, of the same line
pub record IsWritten (next : ℕ) (g t : OpenGroups) (xs ys : List ℕ) (e : FrameKey × OpenGroup) : Type 0 where
  pub count : length t.groups.entries ≡ length g.groups.entries
  pub kept : IsKept next t
  pub listed : listed t ≡ groups_at (item_at g) xs ++ group_at e ∷ groups_at (item_at g) ys
  pub places : places t ≡ places g
  pub prefix : groups_at (item_at t) xs ≡ groups_at (item_at g) xs
  pub rear : groups_at (item_at t) ys ≡ groups_at (item_at g) ys

module _ (next : ℕ) (g : OpenGroups) (at : ℕ) (xs ys : List ℕ) (kept : IsKept next g) (low : at < length g.groups.entries) (is : places g ≡ xs ++ at ∷ ys) (k : FrameKey) (v w : Linked) (there : slice_get g.groups.entries at ≡ Some (k, v))
    (after : w.after ≡ v.after) (before : w.before ≡ v.before) (t : OpenGroups) (entries : t.groups.entries ≡ set_value_at g.groups.entries at w) (first : t.first ≡ g.first) (last : t.last ≡ g.last) where
  inside : at ≡ nowhere → ⊥
  inside e = omega (arith, low, kept.few, e)

  same-side : (side : Linked → ℕ) (end end' j : ℕ) → end' ≡ end → side w ≡ side v → beside side end' t.groups.entries j ≡ beside side end g.groups.entries j
  same-side side end end' j e s = (λ i. beside side (e i) (entries i) j) ∙ beside-kept g.groups.entries at k v w there inside side end j s

  in-order : (times at xs ≡ 0) × (times at ys ≡ 0)
  in-order = let l = in-list (length g.groups.entries) (after_of g) (before_of g) xs at ys kept.few (fixed next g g at xs ys kept low is (λ l. l.after) g.first) (fixed next g g at xs ys kept low is (λ l. l.before) g.last) (linked-here next g g at xs ys kept low is) in (l.1, l.2)

  unchanged-groups : (zs : List ℕ) → times at zs ≡ 0 → groups_at (item_at t) zs ≡ groups_at (item_at g) zs
  unchanged-groups zs none = groups-same (item_at g) (item_at t) zs (λ j more. ap (λ es. item_in es j) entries ∙ item-other g.groups.entries at k v w there inside j (λ e. omega (arith, none, subst (λ i. 0 < times i zs) e more)))

  written-groups : groups_at (item_at t) (places g) ≡ groups_at (item_at g) xs ++ group_at (k, w.group) ∷ groups_at (item_at g) ys
  written-groups =
      ap (groups_at (item_at t)) is ∙ groups-append (item_at t) xs (at ∷ ys)
      ∙ (λ i. unchanged-groups xs in-order.0 i ++ cons_option (option_map group_at ((ap (λ es. item_in es at) entries ∙ item-here g.groups.entries at k v w there inside) i)) (unchanged-groups ys in-order.1 i))

  pub written : w.group.first ≡ v.group.first → IsWritten next g t xs ys (k, w.group)
  written line =
      let n = length g.groups.entries in
      let count : length t.groups.entries ≡ n = ap length entries ∙ length-set_value_at g.groups.entries at w in
      let l = subst (λ h. AreLinked n n h (before_of t) (places g)) (fun_ext (λ j. sym (same-side (λ l. l.after) g.first t.first j first after)))
      (subst (λ h. AreLinked n n (after_of g) h (places g)) (fun_ext (λ j. sym (same-side (λ l. l.before) g.last t.last j last before))) kept.linked) in
      let rise = rise-instead 1 next (groups_at (item_at g) xs) (group_at (k, v.group)) (group_at (k, w.group)) (groups_at (item_at g) ys) line (subst (RiseBelow 1 next) (listed-split next g g at xs ys kept low is (k, v.group) (ap (option_map item) there)) kept.rise) in
      let l' = subst (λ m. AreLinked m m (after_of t) (before_of t) (places g)) (sym count) l in
      let few : length t.groups.entries < nowhere = omega (arith, kept.few, count) in
      let all = kept-by next t (places g) few l' (kept.counted ∙ sym count) (subst (RiseBelow 1 next) (sym written-groups) rise) in
      record {
        count = count;
        kept = all.0;
        listed = all.1 ∙ written-groups;
        places = places-are t.groups.entries t.first nowhere (places g) (length t.groups.entries) few (λ at more. (l'.within at more).0) (omega (arith, kept.counted, count)) l'.path;
        prefix = unchanged-groups xs in-order.0;
        rear = unchanged-groups ys in-order.1;
      }

-- ---- an end with a new neighbour

module _ (g : OpenGroups) (at to : ℕ) (past : length g.groups.entries ≤ at) (is : IsPlace (length g.groups.entries) at) where
  pub told-first : AreRelinked g (record g { first = to }) (put at to (after_of g)) (before_of g)
  told-first = grind arith

  pub told-last : AreRelinked g (record g { last = to }) (after_of g) (put at to (before_of g))
  told-last = grind arith

-- a new neighbour on each side
pub both-told : (g s t : OpenGroups) (b x h y : ℕ) → AreRelinked g s (put b x (after_of g)) (before_of g) → AreRelinked s t (after_of s) (put h y (before_of s)) → AreRelinked g t (put b x (after_of g)) (put h y (before_of g))
both-told g s t b x h y one two = grind arith
