-- Groups hold if each holds and none has the key of a group before it.
use Rattle.std.proofs.Common.{arith, ◌≡◌, ◌≤◌, ℕ, ◌+◌, ◌<◌, Bool, true, false, not, ◌&&◌, ◌||◌, List, [], ◌∷◌, ◌++◌, length, get_or, take, drop, map, Option, refl, sym, ap, subst, ◌∙◌, is_some}
use Rattle.std.specs.List.{list_any, AllByRecursion}
use Rattle.std.proofs.lemmas.List.{drop_more, take_more, map-append}
use Rattle.n2k_table.specs.declared.definition.Kind.{Kind}
use Rattle.n2k_join.specs.Frames.{Key, same_key}
use Rattle.n2k_join.specs.Open.{Group}
use Rattle.n2k_join.specs.Resumed.{group_holds, groups_hold, firsts_rise}
use Rattle.n2k_join.specs.State.{HasParts}
use Rattle.n2k_join.specs.Inner.Apart.{each_new}
use Rattle.n2k_join.specs.Inner.Stored.{of_the_key}
use Rattle.n2k_join.proofs.Keys.{same_key-sym}
use Rattle.n2k_join.proofs.Rising.{all-append}
use Rattle.std.proofs.Math.Bool.{or-false, and-false}
use Rattle.std.proofs.lemmas.List.Folds.{list_any-append}

abbrev has : Key → List Group → Bool
has k gs = list_any (λ (other : Group). same_key k other.key) gs

abbrev none_of : List Key → List Group → Bool
none_of ks [] = true
none_of ks (g ∷ gs) = not (list_any (same_key g.key) ks) && none_of ks gs

none_of-nil : (gs : List Group) → none_of [] gs ≡ true
none_of-nil [] = refl
none_of-nil (g ∷ gs) = none_of-nil gs

any-last : (f : Key → Bool) (ks : List Key) (k : Key) → list_any f (ks ++ k ∷ []) ≡ (list_any f ks || f k)
any-last f ks k = list_any-append f ks (k ∷ []) ∙ ap (λ b. list_any f ks || b) (or-false (f k))

none_of-last : (ks : List Key) (k : Key) (gs : List Group) → none_of (ks ++ k ∷ []) gs ≡ (none_of ks gs && not (has k gs))
none_of-last ks k [] = refl
none_of-last ks k (g ∷ gs) = grind (arith, none_of-last ks k gs, any-last, same_key-sym)

-- the rules on groups, by the keys before them
hold-new : (kind : ℕ → Option Kind) (ks : List Key) (gs : List Group) → each_new kind ks gs ≡ (none_of ks gs && groups_hold kind gs)
unfolding each_new groups_hold
hold-new kind ks [] = refl
hold-new kind ks (g ∷ gs) = grind (arith, hold-new kind (ks ++ g.key ∷ []) gs ∙ ap (λ b. b && groups_hold kind gs) (none_of-last ks g.key gs), none_of-last, and-false)

pub hold-each_new : (kind : ℕ → Option Kind) (gs : List Group) → each_new kind [] gs ≡ groups_hold kind gs
hold-each_new kind gs = hold-new kind [] gs ∙ ap (λ b. b && groups_hold kind gs) (none_of-nil gs)

-- ---- one group more is taken into the map

abbrev pub keys_in : List Group → List Key
keys_in gs = map (λ (g : Group). g.key) gs

module _ (kind : ℕ → Option Kind) (ks : List Key) (gs : List Group) (i : ℕ) (g : Group) (lt : i < length gs) (at : g ≡ get_or gs i g) (left : each_new kind ks (drop i gs) ≡ groups_hold kind gs) where
  opened : (group_holds kind g && (not (list_any (same_key g.key) ks) && each_new kind (ks ++ g.key ∷ []) (drop (i + 1) gs))) ≡ groups_hold kind gs
  unfolding each_new
  opened = sym (ap (each_new kind ks) (drop_more gs i g lt ∙ ap (λ h. h ∷ drop (i + 1) gs) (sym at))) ∙ left

  pub key_again : group_holds kind g ≡ true → list_any (same_key g.key) ks ≡ true → groups_hold kind gs ≡ false
  key_again good again = sym opened ∙ (λ j. good j && (not (again j) && each_new kind (ks ++ g.key ∷ []) (drop (i + 1) gs)))

  pub key_new : group_holds kind g ≡ true → list_any (same_key g.key) ks ≡ false → each_new kind (ks ++ g.key ∷ []) (drop (i + 1) gs) ≡ groups_hold kind gs
  key_new good new = (λ j. sym good j && (not (sym new j) && each_new kind (ks ++ g.key ∷ []) (drop (i + 1) gs))) ∙ opened

-- a key is listed exactly if a group of it is found
pub key_listed : (key : Key) (gs : List Group) → list_any (same_key key) (keys_in gs) ≡ is_some (of_the_key key gs)
key_listed key [] = refl
key_listed key (g ∷ gs) = grind (arith, key_listed key gs)

-- One more of the groups that were read is stored.
module _ (kind : ℕ → Option Kind) (gs : List Group) (i : ℕ) (g : Group) (lt : i < length gs) (at : g ≡ get_or gs i g) (before next : List Group) (unseen : list_any (same_key g.key) (keys_in before) ≡ false) (last : next ≡ before ++ g ∷ []) where
  pub stored_kept : before ≡ take i gs → next ≡ take (i + 1) gs
  stored_kept kept = last ∙ ap (λ hs. hs ++ g ∷ []) kept ∙ sym (take_more gs i g lt ∙ ap (λ h. take i gs ++ h ∷ []) (sym at))

  pub stored_left : group_holds kind g ≡ true → each_new kind (keys_in before) (drop i gs) ≡ groups_hold kind gs → each_new kind (keys_in next) (drop (i + 1) gs) ≡ groups_hold kind gs
  stored_left good left = grind (arith, map-append, key_new)

  pub stored_parts : AllByRecursion HasParts before → HasParts g → AllByRecursion HasParts next
  stored_parts each one = subst (AllByRecursion HasParts) (sym last) (all-append HasParts before (g ∷ []) each (one, tt))

-- first lines that rise, the next one taken
pub next_rises : (least lines i : ℕ) (gs : List Group) (g : Group) → i < length gs → g ≡ get_or gs i g → firsts_rise least lines (drop i gs) ≡ true → (least ≤ g.first) × ((g.first ≤ lines) × (firsts_rise (g.first + 1) lines (drop (i + 1) gs) ≡ true))
unfolding firsts_rise
next_rises least lines i gs g lt at e = grind (arith, drop_more)
