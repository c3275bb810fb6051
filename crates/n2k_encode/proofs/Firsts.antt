-- The definitions that are meant, one after the other, each with its place.
use Rattle.std.proofs.Common.{not, ◌&&◌, take, ◌≡◌, ℕ, zero, suc, ◌+◌, Bool, true, false, List, [], ◌∷◌, map, drop, Some, None, refl, ap, add-one, arith}
use Rattle.std.specs.List.{filter, list_all, slice_get, enumerate_from}
use Rattle.n2k_encode.specs.Steps.{is_some_with}

drop_end : {A : Type 0} → (xs : List A) (k : ℕ) → slice_get xs k ≡ None → drop k xs ≡ []
drop_end [] zero e = refl
drop_end [] (suc k) e = refl
drop_end (x ∷ xs) zero e = absurd cc
drop_end (x ∷ xs) (suc k) e = drop_end xs k e

drop_at : {A : Type 0} → (xs : List A) (k : ℕ) (x : A) → slice_get xs k ≡ Some x → drop k xs ≡ x ∷ drop (suc k) xs
drop_at [] zero x e = absurd cc
drop_at [] (suc k) x e = absurd cc
drop_at (y ∷ xs) zero x e = grind (arith, e)
drop_at (y ∷ xs) (suc k) x e = drop_at xs k x e

-- two conditions and a third, in the other grouping
all_and : (a b c d : Bool) → b ≡ (c && d) → (a && b) ≡ ((a && c) && d)
all_and true b c d e = e
all_and false b c d e = refl

none_first : (a : Bool) → (not a && true) ≡ (true && not a)
none_first true = refl
none_first false = refl

none_after : {A : Type 0} → (p : A → Bool) (xs : List A) (k : ℕ)
    → list_all (λ x. not (p x)) (take (suc k) xs) ≡ (list_all (λ x. not (p x)) (take k xs) && not (is_some_with p (slice_get xs k)))
none_after p [] zero = refl
none_after p [] (suc k) = refl
none_after p (x ∷ xs) zero = none_first (p x)
none_after p (x ∷ xs) (suc k) = all_and (not (p x)) _ _ _ (none_after p xs k)

pub none_more : {A : Type 0} → (p : A → Bool) (xs : List A) (k : ℕ)
    → list_all (λ x. not (p x)) (take (k + 1) xs) ≡ (list_all (λ x. not (p x)) (take k xs) && not (is_some_with p (slice_get xs k)))
none_more p xs k = rw add-one (none_after p xs k)

module _ {A B : Type 0} (p : ℕ × A → Bool) (h : ℕ × A → B) (xs : List A) (k : ℕ) where
  pub none_left : slice_get xs k ≡ None → map h (filter p (enumerate_from k (drop k xs))) ≡ []
  none_left e = ap (λ ys. map h (filter p (enumerate_from k ys))) (drop_end xs k e)

  pub left_out : (x : A) → slice_get xs k ≡ Some x → p (k, x) ≡ false
      → map h (filter p (enumerate_from k (drop k xs))) ≡ map h (filter p (enumerate_from (k + 1) (drop (k + 1) xs)))
  left_out x e other =
      let here : drop k xs ≡ x ∷ drop (k + 1) xs = rw add-one (drop_at xs k x e) in
      rw (here, other) refl

  pub next_left : (x : A) → slice_get xs k ≡ Some x → p (k, x) ≡ true
      → map h (filter p (enumerate_from k (drop k xs))) ≡ h (k, x) ∷ map h (filter p (enumerate_from (k + 1) (drop (k + 1) xs)))
  next_left x e passes =
      let here : drop k xs ≡ x ∷ drop (k + 1) xs = rw add-one (drop_at xs k x e) in
      rw (here, passes) refl
