-- The list of the open groups: finding a key in it, its first group, and changing it.
use Rattle.std.proofs.Common.{◌≡◌, ◌<◌, ◌+◌, ◌-◌, ℕ, zero, suc, nat_lt, Bool, true, false, cond, List, [], ◌∷◌, ◌++◌, length, slice_get, get_or, refl, sym, ap, ◌∙◌, subst, arith, Option, Some, None, IfSome, option_map, append_assoc, is_some, position, ltb-true}
use Rattle.std.specs.Option.{option_map_or}
use Rattle.std.specs.List.{list_all, cons_option}
use Rattle.std.specs.Map.{keys_of, values_of}
use Rattle.std.proofs.lemmas.Option.{none-some, same_Some, slice_get_within, slice_get-get_or, slice_get-map}
use Rattle.std.proofs.lemmas.List.{append-nil, length-map}
use Rattle.std.proofs.lemmas.List.Quantifiers.{position-Some}
use Rattle.json.specs.Token.{Token}
use Rattle.n2k_join.specs.declared.piece.FrameKey.{FrameKey}
use Rattle.n2k_join.specs.declared.piece.OpenGroup.{OpenGroup}
use Rattle.n2k_join.specs.declared.open_groups.Linked.{Linked}
use Rattle.n2k_join.specs.declared.open_groups.OpenGroups.{OpenGroups}
use Rattle.n2k_join.specs.Frames.{Key, same_key}
use Rattle.n2k_join.specs.Messages.{as_broken}
use Rattle.n2k_join.specs.Open.{Group, is_waiting, ended}
use Rattle.n2k_join.specs.Saved.{group_tree}
use Rattle.n2k_join.specs.State.{Rise}
use Rattle.n2k_join.specs.Window.{Window}
use Rattle.n2k_join.specs.Inner.SavedTokens.{tokens_of, groups_tokens}
use Rattle.n2k_join.specs.Inner.Stored.{key_of, of_the_key}
use Rattle.n2k_join.specs.Inner.Slots.{group_at}
use Rattle.n2k_join.specs.Inner.Order.{Entries, StandsAt, found, item, item_in, item_at, places_from, places, groups_at, listed, RiseBelow, IsKept}
use Rattle.n2k_join.proofs.Keys.{same_key-refl, same_key-true}
use Rattle.n2k_join.proofs.Order.{listed-split}
use Rattle.n2k_join.proofs.Places.{Split, split}
use Rattle.n2k_join.proofs.Windows.{later-wait}

-- ---- the group of a key

-- keys that are the same are one
one_key : (j k : FrameKey) → same_key (key_of j) (key_of k) ≡ true → j ≡ k
one_key j k e = ap (λ (key : Key). record { src = key.src; dst = key.dst; pgn = key.pgn; sequence = key.sequence }) (same_key-true (key_of j) (key_of k) e)

-- the place that a look-up gives
pub places-key : (k : FrameKey) (es : Entries) (r : Option ℕ) → r ≡ position (λ (j : FrameKey). same_key (key_of k) (key_of j)) (keys_of es) → IfSome r (λ at. StandsAt es k at)
places-key k es None e = tt
places-key k es (Some i) e =
    let P : FrameKey → Bool = λ j. same_key (key_of k) (key_of j) in
    let at = position-Some P (keys_of es) i k (sym e) in
    (omega (arith, at.0, length-map es (λ (e : FrameKey × Linked). e.0)), slice_get-get_or (keys_of es) i k at.0 ∙ ap Some (sym (one_key k (get_or (keys_of es) i k) at.1)))

-- the entry there
pub at_place : (es : Entries) (k : FrameKey) (at : ℕ) (v : Linked) → slice_get (keys_of es) at ≡ Some k → slice_get (values_of es) at ≡ Some v → slice_get es at ≡ Some (k, v)
at_place es k at v key value = grind (arith, slice_get-map)

entry : (es : Entries) (k : FrameKey) (v : Linked) → found es k ≡ Some v → (at : ℕ) × (slice_get es at ≡ Some (k, v))
entry [] k v h = absurd (none-some v h)
entry (e ∷ es) k v h = by (same_key (key_of k) (key_of e.0)) refl h (entry es k v)
  where
    by : (b : Bool) → same_key (key_of k) (key_of e.0) ≡ b → cond b (Some e.1) (found es k) ≡ Some v → (found es k ≡ Some v → (at : ℕ) × (slice_get es at ≡ Some (k, v))) → (at : ℕ) × (slice_get (e ∷ es) at ≡ Some (k, v))
    by true t h rest = (0, λ i. Some (sym (one_key k e.0 t) i, same_Some e.1 v h i))
    by false t h rest = let r = rest h in (suc r.0, r.1)

other-entry : (es : Entries) (k : FrameKey) → found es k ≡ None → (at : ℕ) (e : FrameKey × Linked) → slice_get es at ≡ Some e → same_key (key_of k) (key_of e.0) ≡ false
other-entry [] k none at e h = absurd (none-some e h)
other-entry (f ∷ es) k none at e h = by (same_key (key_of k) (key_of f.0)) refl none at h (other-entry es k)
  where
    by : (b : Bool) → same_key (key_of k) (key_of f.0) ≡ b → cond b (Some f.1) (found es k) ≡ None → (at : ℕ) → slice_get (f ∷ es) at ≡ Some e
        → (found es k ≡ None → (at : ℕ) (e : FrameKey × Linked) → slice_get es at ≡ Some e → same_key (key_of k) (key_of e.0) ≡ false) → same_key (key_of k) (key_of e.0) ≡ false
    by true t none at h rest = absurd (none-some f.1 (sym none))
    by false t none zero h rest = ap (λ (p : FrameKey × Linked). same_key (key_of k) (key_of p.0)) (sym (same_Some f e h)) ∙ t
    by false t none (suc at) h rest = rest none at e h

pub none-open : (es : Entries) (k : FrameKey) → found es k ≡ None → (ps : List ℕ) → of_the_key (key_of k) (groups_at (item_in es) ps) ≡ None
none-open es k none [] = refl
none-open es k none (p ∷ ps) = grind (arith, none-open es k none ps, other-entry)

some-open : (key : Key) (fs : List Group) (g : Group) (gs : List Group) → same_key key g.key ≡ true → is_some (of_the_key key (fs ++ g ∷ gs)) ≡ true
some-open key [] g gs e = ap (λ b. is_some (cond b (Some g) (of_the_key key gs))) e
some-open key (f ∷ fs) g gs e = elim (same_key key f.key) as (λ b. is_some (of_the_key key (fs ++ g ∷ gs)) ≡ true → is_some (cond b (Some f) (of_the_key key (fs ++ g ∷ gs))) ≡ true) [ true ↦ λ rest. refl | false ↦ λ rest. rest ] (some-open key fs g gs e)

-- a place of the map is one of the list
pub place-split : (next : ℕ) (g : OpenGroups) → IsKept next g → (at : ℕ) → at < length g.groups.entries → Split at (places g)
place-split next g kept at low = split at (places g) (let once = kept.linked.once at low (λ e. omega (arith, low, e)) in omega (arith, once))

-- the entry at a place, and its position in the list
pub record Here (g : OpenGroups) (k : FrameKey) (at : ℕ) (v : Linked) : Type 0 where
  pub low : at < length g.groups.entries
  pub entry : slice_get g.groups.entries at ≡ Some (k, v)
  pub xs : List ℕ
  pub ys : List ℕ
  pub is : places g ≡ xs ++ at ∷ ys
  pub listed : listed g ≡ groups_at (item_at g) xs ++ group_at (k, v.group) ∷ groups_at (item_at g) ys

pub here : (next : ℕ) (g : OpenGroups) (k : FrameKey) (at : ℕ) (v : Linked) → IsKept next g → StandsAt g.groups.entries k at → slice_get (values_of g.groups.entries) at ≡ Some v → Here g k at v
here next g k at v kept stands value =
    let e = at_place g.groups.entries k at v stands.1 value in
    let s = place-split next g kept at stands.0 in
    record { low = stands.0; entry = e; xs = s.xs; ys = s.ys; is = s.is; listed = listed-split next g g at s.xs s.ys kept stands.0 s.is (k, v.group) (ap (option_map item) e) }

-- a group of a key is listed exactly if the map finds one
pub open-found : (next : ℕ) (g : OpenGroups) → IsKept next g → (k : FrameKey) → is_some (of_the_key (key_of k) (listed g)) ≡ is_some (found g.groups.entries k)
open-found next g kept k = by (found g.groups.entries k) refl
  where
    by : (o : Option Linked) → found g.groups.entries k ≡ o → is_some (of_the_key (key_of k) (listed g)) ≡ is_some o
    by None e = ap is_some (none-open g.groups.entries k e (places g))
    by (Some v) e =
        let at = entry g.groups.entries k v e in
        let low = slice_get_within g.groups.entries at.0 (k, v) at.1 in
        let s = place-split next g kept at.0 low in
        ap (λ gs. is_some (of_the_key (key_of k) gs)) (listed-split next g g at.0 s.xs s.ys kept low s.is (k, v.group) (ap (option_map item) at.1))
        ∙ some-open (key_of k) (groups_at (item_at g) s.xs) (group_at (k, v.group)) (groups_at (item_at g) s.ys) (same_key-refl (key_of k))

-- ---- the first

pub rise-groups : (least next : ℕ) (gs : List Group) → RiseBelow least next gs → Rise (λ (g : Group). g.first) least gs
rise-groups least next [] r = tt
rise-groups least next (g ∷ gs) r = (r.0, rise-groups (g.first + 1) next gs r.1)

places-next : (es : Entries) (n at : ℕ) (e : FrameKey × Linked) → 0 < n → slice_get es at ≡ Some e → (ys : List ℕ) × (places_from es n at ≡ at ∷ ys)
places-next es zero at e l is = absurd (omega (arith, l))
places-next es (suc n) at e l is = (places_from es n e.1.after, ap (λ o. option_map_or (λ (e : FrameKey × Linked). at ∷ places_from es n e.1.after) o []) is)

pub first-place : (g : OpenGroups) (e : FrameKey × Linked) → slice_get g.groups.entries g.first ≡ Some e → (ys : List ℕ) × (places g ≡ g.first ∷ ys)
first-place g e is = places-next g.groups.entries (length g.groups.entries) g.first e (omega (arith, slice_get_within g.groups.entries g.first e is)) is

pub first-group : (g : OpenGroups) (e : FrameKey × Linked) (is : slice_get g.groups.entries g.first ≡ Some e) → listed g ≡ group_at (item e) ∷ groups_at (item_at g) (first-place g e is).0
first-group g e is = ap (groups_at (item_at g)) (first-place g e is).1 ∙ ap (λ o. cons_option (option_map group_at (option_map item o)) (groups_at (item_at g) (first-place g e is).0)) is

pub no-places : (es : Entries) (n at : ℕ) → slice_get es at ≡ None → places_from es n at ≡ []
no-places es zero at is = refl
no-places es (suc n) at is = ap (λ o. option_map_or (λ (e : FrameKey × Linked). at ∷ places_from es n e.1.after) o []) is

pub none-listed : (g : OpenGroups) → slice_get g.groups.entries g.first ≡ None → listed g ≡ []
none-listed g is = ap (groups_at (item_at g)) (no-places g.groups.entries (length g.groups.entries) g.first is)

-- if the window of the first group has not ended, no group's has
pub none-ended : (w : Window) (line next : ℕ) (gs fs : List Group) (g : Group) → RiseBelow 1 next gs → gs ≡ g ∷ fs → nat_lt line (g.first + w.lines) ≡ true → ended w line gs ≡ []
none-ended w line next gs fs g rise is waits =
    let r = subst (RiseBelow 1 next) is rise in
    later-wait w line g.first gs (subst (Rise (λ (g : Group). g.first) g.first) (sym is) (omega arith, rise-groups (g.first + 1) next fs r.1)) (ltb-true _ _ waits)

-- if the window of the first group has ended, that is the first ended group
pub first-ended : (w : Window) (line : ℕ) (gs fs : List Group) (g : Group) → gs ≡ g ∷ fs → nat_lt line (g.first + w.lines) ≡ false → Some (as_broken g) ≡ option_map as_broken (slice_get (ended w line gs) 0)
unfolding ended
first-ended w line gs fs g is late = grind arith

pub all-wait : (w : Window) (line least next : ℕ) (gs : List Group) → RiseBelow least next gs → line < least + w.lines → list_all (is_waiting w line) gs ≡ true
all-wait w line least next [] r l = refl
all-wait w line least next (g ∷ gs) r l = grind (arith, all-wait w line (g.first + 1) next gs r.1 (omega (arith, r.0, l)))

-- all groups wait exactly if the first does
pub first-waits : (w : Window) (line next : ℕ) (gs fs : List Group) (g : Group) → RiseBelow 1 next gs → gs ≡ g ∷ fs → nat_lt line (g.first + w.lines) ≡ list_all (is_waiting w line) gs
first-waits w line next gs fs g rise is = grind (arith, all-wait)

-- ---- writing the list

pub places-more : (es : Entries) (n i at : ℕ) (e : FrameKey × Linked) → i < n → slice_get es at ≡ Some e → places_from es (n - i) at ≡ at ∷ places_from es (n - (i + 1)) e.1.after
places-more es n i at e less is = grind arith

pub group_more_written : (items : ℕ → Option (FrameKey × OpenGroup)) (p : ℕ) (ps : List ℕ) (e : FrameKey × OpenGroup) (all written now : List Token) → items p ≡ Some e
    → all ≡ written ++ groups_tokens (groups_at items (p ∷ ps)) → now ≡ written ++ tokens_of (group_tree (group_at e)) → all ≡ now ++ groups_tokens (groups_at items ps)
unfolding groups_tokens
group_more_written items p ps e all written now there so_far is = grind (arith, append_assoc)

pub groups_written : (all now : List Token) (gs : List Group) → gs ≡ [] → all ≡ now ++ groups_tokens gs → now ≡ all
unfolding groups_tokens
groups_written all now gs none is = sym (is ∙ ap (λ gs. now ++ groups_tokens gs) none ∙ append-nil now)
