-- Lists whose numbers rise strictly: look-up by number, and values over a range of numbers.
use Rattle.std.proofs.Common.{◌≡◌, ◌==◌, ◌≤◌, ◌<◌, ◌+◌, ℕ, suc, zero, Bool, true, false, cond, List, [], ◌∷◌, ◌++◌, refl, ap, ◌∙◌, arith, Option, Some, None, filter_map, find, option_and_then, option_to_list, flat_map, option_map, length, filter, IfSome, is_some}
use Rattle.std.specs.List.{range_with_len, cons_option, AllByRecursion, list_any, last_or, list_all}
use Rattle.std.proofs.lemmas.List.Elements.{filter_map-append}
use Rattle.std.proofs.lemmas.Bool.{eqb-true, eqb-false, eq-eqb, ne_eqb, or_parts, and_parts, and_from}
use Rattle.std.proofs.lemmas.Option.{none-some}
use Rattle.n2k_join.specs.State.{Rise}

pub range-append : (a n k : ℕ) → range_with_len a (n + k) ≡ range_with_len a n ++ range_with_len (a + n) k
range-append a zero k = grind arith
range-append a (suc n) k =
    let e : suc n + k ≡ suc (n + k) = omega arith in
    let e' : (a + 1) + n ≡ a + suc n = omega arith in
    ap (range_with_len a) e
    ∙ ap (λ l. a ∷ l) (range-append (a + 1) n k ∙ ap (λ j. range_with_len (a + 1) n ++ range_with_len j k) e')

-- one number more at the end of a range
pub range-push : (a n : ℕ) → range_with_len a (n + 1) ≡ range_with_len a n ++ (a + n) ∷ []
range-push a n = range-append a n 1

pub filter_map-push : {X Y : Type 0} (h : X → Option Y) (xs : List X) (x : X) → filter_map h (xs ++ x ∷ []) ≡ filter_map h xs ++ option_to_list (h x)
filter_map-push h xs x = filter_map-append h xs (x ∷ []) ∙ ap (λ t. filter_map h xs ++ t) (elim (h x) as (λ o. cons_option o [] ≡ option_to_list o) [ None ↦ refl | Some y ↦ refl ])

-- no values are given
pub filter_map-none : {X Y : Type 0} (h : X → Option Y) → ((x : X) → h x ≡ None) → (xs : List X) → filter_map h xs ≡ []
filter_map-none h e [] = refl
filter_map-none h e (x ∷ xs) = rw (e x) (filter_map-none h e xs)

-- if a value is made of an option, the option has an item that makes it
pub option_map_some : {X Y P : Type 0} (f : X → Y) (o : Option X) (y : Y) → option_map f o ≡ Some y
    → ((x : X) → o ≡ Some x → f x ≡ y → P) → P
option_map_some f o y e given = grind arith

pub none_from : {X : Type 0} (o : Option X) → is_some o ≡ false → o ≡ None
none_from o e = grind arith

-- two passes in one
pub filter_map-fused : {X Y Z : Type 0} (t : Y → Option Z) (h : X → Option Y) (xs : List X) → filter_map (λ x. option_and_then t (h x)) xs ≡ filter_map t (filter_map h xs)
filter_map-fused t h [] = refl
filter_map-fused t h (x ∷ xs) = grind (arith, filter_map-fused t h xs)

-- functions that agree on a range give the same list
pub filter_map-range : {Y : Type 0} (h k : ℕ → Option Y) (a n : ℕ) → ((i : ℕ) → a ≤ i → i < a + n → h i ≡ k i) → filter_map h (range_with_len a n) ≡ filter_map k (range_with_len a n)
filter_map-range h k a zero e = refl
filter_map-range h k a (suc n) e = grind (arith, filter_map-range h k (a + 1) n (λ i l u. e i (omega arith) (omega arith)))

-- a found item passes the test
pub find-passes : {X : Type 0} (p : X → Bool) (xs : List X) (x : X) → find p xs ≡ Some x → p x ≡ true
find-passes p [] x e = absurd (none-some x e)
find-passes p (y ∷ ys) x e = grind (arith, find-passes p ys x)

-- a property of all items holds of a found item
pub find-all : {X : Type 0} (P : X → Type 0) (p : X → Bool) (xs : List X) (x : X) → AllByRecursion P xs → find p xs ≡ Some x → P x
find-all P p [] x all e = absurd (none-some x e)
find-all P p (y ∷ ys) x all e = grind (arith, find-all P p ys x all.1)

-- if nothing passes, nothing is found
pub find-none : {X : Type 0} (p : X → Bool) (xs : List X) → AllByRecursion (λ x. p x ≡ false) xs → find p xs ≡ None
find-none p [] all = refl
find-none p (x ∷ xs) all = ap (λ b. cond b (Some x) (find p xs)) all.0 ∙ find-none p xs all.1

-- if nothing is found, nothing passes
pub passes_none : {X : Type 0} (p : X → Bool) (xs : List X) → find p xs ≡ None → AllByRecursion (λ x. p x ≡ false) xs
passes_none p [] e = tt
passes_none {X} p (x ∷ xs) e = grind (arith, passes_none p xs, none-some)

-- if none passes, each fails
pub none_any : {X : Type 0} (p : X → Bool) (xs : List X) → list_any p xs ≡ false → AllByRecursion (λ x. p x ≡ false) xs
none_any p [] h = tt
none_any p (x ∷ xs) h = let parts = or_parts _ _ h in (parts.0, none_any p xs parts.1)

-- a test of the numbers of a range
pub all_from : (p : ℕ → Bool) (a n : ℕ) → ((i : ℕ) → a ≤ i → i < a + n → p i ≡ true) → list_all p (range_with_len a n) ≡ true
all_from p a zero each = refl
all_from p a (suc n) each = and_from _ _ (each a (omega arith) (omega arith)) (all_from p (a + 1) n (λ i l u. each i (omega (arith, l)) (omega (arith, u))))

pub all_to : (p : ℕ → Bool) (a n i : ℕ) → list_all p (range_with_len a n) ≡ true → a ≤ i → i < a + n → p i ≡ true
all_to p a zero i h l u = absurd (omega (arith, l, u))
all_to p a (suc n) i h l u = by (a == i) refl (all_to p (a + 1) n i (and_parts _ _ h).1)
  where
    by : (b : Bool) → (a == i) ≡ b → (a + 1 ≤ i → i < (a + 1) + n → p i ≡ true) → p i ≡ true
    by b e rest = grind arith

pub all-map : {X : Type 0} (P Q : X → Type 0) (xs : List X) → ((x : X) → P x → Q x) → AllByRecursion P xs → AllByRecursion Q xs
all-map P Q [] h all = tt
all-map P Q (x ∷ xs) h all = (h x all.0, all-map P Q xs h all.1)

pub all-zip : {X : Type 0} (P Q : X → Type 0) (xs : List X) → AllByRecursion P xs → AllByRecursion Q xs → AllByRecursion (λ x. P x × Q x) xs
all-zip P Q [] p q = tt
all-zip P Q (x ∷ xs) p q = ((p.0, q.0), all-zip P Q xs p.1 q.1)

pub all_with : {X : Type 0} (P Q R : X → Type 0) → ((x : X) → P x → Q x → R x) → (xs : List X) → AllByRecursion P xs → AllByRecursion Q xs → AllByRecursion R xs
all_with P Q R h [] p q = tt
all_with P Q R h (x ∷ xs) p q = (h x p.0 q.0, all_with P Q R h xs p.1 q.1)

-- a property of the value of an option, if it has one
pub all-option : {X : Type 0} (P : X → Type 0) (o : Option X) → ((x : X) → o ≡ Some x → P x)
    → AllByRecursion P (option_to_list o)
all-option P o each = grind arith

pub all-append : {X : Type 0} (P : X → Type 0) (xs ys : List X) → AllByRecursion P xs → AllByRecursion P ys → AllByRecursion P (xs ++ ys)
all-append P [] ys a b = b
all-append P (x ∷ xs) ys a b = (a.0, all-append P xs ys a.1 b)

pub all-prefix : {X : Type 0} (P : X → Type 0) (xs ys : List X) → AllByRecursion P (xs ++ ys) → AllByRecursion P xs
all-prefix P [] ys each = tt
all-prefix P (x ∷ xs) ys each = (each.0, all-prefix P xs ys each.1)

pub all-back : {X : Type 0} (P : X → Type 0) (xs ys : List X) → AllByRecursion P (xs ++ ys) → AllByRecursion P ys
all-back P [] ys each = each
all-back P (x ∷ xs) ys each = all-back P xs ys each.1

pub all-flat_map : {X Y : Type 0} (P : Y → Type 0) (f : X → List Y) (xs : List X) → AllByRecursion (λ x. AllByRecursion P (f x)) xs → AllByRecursion P (flat_map f xs)
all-flat_map P f [] all = tt
all-flat_map P f (x ∷ xs) all = all-append P (f x) (flat_map f xs) all.0 (all-flat_map P f xs all.1)

-- a property of all items holds of the items of each list
pub all-joined : {X : Type 0} (P : X → Type 0) (gs : List (List X)) → AllByRecursion P (flat_map (λ (g : List X). g) gs) → AllByRecursion (AllByRecursion P) gs
all-joined P [] each = tt
all-joined {X} P (g ∷ gs) each = grind (arith, all-joined P gs (all-back P g (flat_map (λ (g : List X). g) gs) each), all-prefix)

-- a property of each item holds of the last
pub last-all : {X : Type 0} (P : X → Type 0) (o : Option X) (xs : List X) → IfSome o P → AllByRecursion P xs → IfSome (last_or o xs) P
last-all P o [] h all = h
last-all P o (x ∷ xs) h all = last-all P (Some x) xs all.0 all.1

module _ {A : Type 0} (number : A → ℕ) where
  -- the item of a number
  abbrev pub look : List A → ℕ → Option A
  look xs n = find (λ x. number x == n) xs

  pub rise-less : (a b : ℕ) (xs : List A) → a ≤ b → Rise number b xs → Rise number a xs
  rise-less a b [] l r = tt
  rise-less a b (x ∷ xs) l r = (omega (arith, r.0), r.1)

  -- all are from the least on
  pub rise-least : (least : ℕ) (xs : List A) → Rise number least xs → AllByRecursion (λ x. least ≤ number x) xs
  rise-least least [] r = tt
  rise-least least (x ∷ xs) r = (r.0, all-map (λ y. number x + 1 ≤ number y) (λ y. least ≤ number y) xs (λ y l. omega (arith, l, r.0)) (rise-least (number x + 1) xs r.1))

  -- the later items of a rising list, and some of its items, rise
  pub rise-rest : (least : ℕ) (xs ys : List A) → Rise number least (xs ++ ys) → Rise number least ys
  rise-rest least [] ys r = r
  rise-rest least (x ∷ xs) ys r =
      rise-less least (number x + 1) ys (omega (arith, r.0)) (rise-rest (number x + 1) xs ys r.1)

  pub rise-filter : (t : A → Bool) (least : ℕ) (xs : List A) → Rise number least xs → Rise number least (filter t xs)
  rise-filter t least [] r = tt
  rise-filter t least (x ∷ xs) r =
      let at : least ≤ number x + 1 = omega (arith, r.0) in
      let rest = rise-filter t (number x + 1) xs r.1 in
      elim (t x) as (λ b. Rise number least (cond b (x ∷ filter t xs) (filter t xs)))
      [ true ↦ (r.0, rest) | false ↦ rise-less least (number x + 1) (filter t xs) at rest ]

  -- no more items than there are numbers for them
  pub rise-few : (least n : ℕ) (xs : List A) → Rise number least xs → AllByRecursion (λ x. number x < least + n) xs → length xs ≤ n
  rise-few least n [] r all = omega arith
  rise-few least zero (x ∷ xs) r all = absurd (omega (arith, r.0, all.0))
  rise-few least (suc n) (x ∷ xs) r all =
      let below =
      all-map (λ y. number y < least + suc n) (λ y. number y < (least + 1) + n) xs (λ y l. omega (arith, l)) all.1 in
      let rest = rise-few (least + 1) n xs (rise-less (least + 1) (number x + 1) xs (omega (arith, r.0)) r.1) below in
      omega (arith, rest)

  -- below the least number there is none
  pub look-below : (least n : ℕ) (xs : List A) → Rise number least xs → n < least → look xs n ≡ None
  look-below least n xs r l = grind (arith, find-none, all-map, rise-least)

  look-here : (x : A) (xs : List A) (n : ℕ) → number x ≡ n → look (x ∷ xs) n ≡ Some x
  look-here x xs n e = ap (λ b. cond b (Some x) (look xs n)) (eq-eqb (number x) n e)

  look-there : (x : A) (xs : List A) (n : ℕ) → (number x ≡ n → ⊥) → look (x ∷ xs) n ≡ look xs n
  look-there x xs n e = ap (λ b. cond b (Some x) (look xs n)) (ne_eqb (number x) n e)

  -- each item is the one of its number
  pub look-all : (least : ℕ) (xs : List A) → Rise number least xs → AllByRecursion (λ x. look xs (number x) ≡ Some x) xs
  look-all least [] r = tt
  look-all least (x ∷ xs) r = (look-here x xs (number x) refl, rest xs (number x + 1) r.1 (omega arith) (look-all (number x + 1) xs r.1))
    where
      rest : (ys : List A) (l : ℕ) → Rise number l ys → number x < l → AllByRecursion (λ y. look xs (number y) ≡ Some y) ys → AllByRecursion (λ y. look (x ∷ xs) (number y) ≡ Some y) ys
      rest [] l r h all = tt
      rest (y ∷ ys) l r h all =
          let other : number x ≡ number y → ⊥ = λ e. omega (arith, r.0, e) in
          let next : number x < number y + 1 = omega (arith, r.0) in
          (look-there x xs (number y) other ∙ all.0, rest ys (number y + 1) r.1 next all.1)

  -- a list read back by its numbers
  pub look-range : (a n : ℕ) (xs : List A) → Rise number a xs → AllByRecursion (λ x. number x < a + n) xs → filter_map (look xs) (range_with_len a n) ≡ xs
  look-range a zero [] r all = refl
  look-range a zero (x ∷ xs) r all = absurd (omega (arith, r.0, all.0))
  look-range a (suc n) [] r all = look-range (a + 1) n [] tt tt
  look-range a (suc n) (x ∷ xs) r all = grind (arith, look-range (a + 1) n xs, look-range (a + 1) n (x ∷ xs), all-map, eqb-true, filter_map-range, look-there, eqb-false, look-below)

  -- the values of the numbers of a range rise, if each has its number
  pub rise-range : (h : ℕ → Option A) → ((i : ℕ) (x : A) → h i ≡ Some x → number x ≡ i) → (least a n : ℕ) → least ≤ a → Rise number least (filter_map h (range_with_len a n))
  rise-range h is least a zero l = tt
  rise-range h is least a (suc n) l = by (h a) refl (λ k u. rise-range h is k (a + 1) n u)
    where
      by : (o : Option A) → h a ≡ o → ((k : ℕ) → k ≤ a + 1 → Rise number k (filter_map h (range_with_len (a + 1) n))) → Rise number least (cons_option o (filter_map h (range_with_len (a + 1) n)))
      by o e rest = grind arith

  -- each value of the list is found by its number
  pub look-filter_map : (h : ℕ → Option A) → ((i : ℕ) (x : A) → h i ≡ Some x → number x ≡ i) → (a n i : ℕ) → a ≤ i → i < a + n → look (filter_map h (range_with_len a n)) i ≡ h i
  look-filter_map h is a zero i l u = absurd (omega arith)
  look-filter_map h is a (suc n) i l u = by (h a) refl (a == i) refl (λ l' u'. look-filter_map h is (a + 1) n i l' u')
    where
      rest : List A
      rest = filter_map h (range_with_len (a + 1) n)

      by : (o : Option A) → h a ≡ o → (b : Bool) → (a == i) ≡ b → (a + 1 ≤ i → i < (a + 1) + n → look rest i ≡ h i) → look (cons_option o rest) i ≡ h i
      by o e b t later = grind (arith, eqb-true, look-below, rest, rise-range, eqb-false, look-here)

-- a property of each value of a list
pub all-filter_map : {X Y : Type 0} (P : Y → Type 0) (h : X → Option Y) (xs : List X) → ((x : X) (y : Y) → h x ≡ Some y → P y) → AllByRecursion P (filter_map h xs)
all-filter_map P h [] each = tt
all-filter_map {Y = Y} P h (x ∷ xs) each = grind (arith, all-filter_map P h xs each)

-- a property of the values of a range, if it depends on the range's limits
pub all-range : {Y : Type 0} (P : Y → Type 0) (h : ℕ → Option Y) (a n : ℕ) → ((i : ℕ) (y : Y) → a ≤ i → i < a + n → h i ≡ Some y → P y) → AllByRecursion P (filter_map h (range_with_len a n))
all-range P h a zero each = tt
all-range {Y} P h a (suc n) each = grind (arith, all-range P h (a + 1) n (λ i y l u e. each i y (omega arith) (omega arith) e))
