-- Two lists with equally many items of each key are equally long.
use Rattle.std.proofs.Common.{◌≡◌, ℕ, zero, suc, ◌+◌, ◌≤◌, Bool, true, false, cond, not, List, [], ◌∷◌, length, refl, ap, ◌∙◌, sym, arith, filter}
use Rattle.std.proofs.lemmas.List.Filters.{length-filter_both}
use Rattle.n2k_join.specs.Frames.{Key, same_key}
use Rattle.n2k_join.proofs.Keys.{same_key-true, same_key-refl}

-- the items of a key, and the others
abbrev of : {X : Type 0} → (X → Key) → Key → List X → List X
of key k xs = filter (λ x. same_key k (key x)) xs

abbrev others : {X : Type 0} → (X → Key) → Key → List X → List X
others key k xs = filter (λ x. not (same_key k (key x))) xs

of-others : {X : Type 0} (key : X → Key) (k : Key) (xs : List X) → length xs ≡ length (of key k xs) + length (others key k xs)
of-others key k xs = sym (length-filter_both (λ x. same_key k (key x)) (λ x. not (same_key k (key x))) (λ x. refl) xs)

none-others : {X : Type 0} (key : X → Key) (k : Key) (xs : List X) → of key k (others key k xs) ≡ []
none-others key k [] = refl
none-others key k (x ∷ xs) = grind (arith, none-others key k xs)

all-others : {X : Type 0} (key : X → Key) (k c : Key) (xs : List X) → same_key k c ≡ false → of key k (others key c xs) ≡ of key k xs
all-others key k c [] other = refl
all-others key k c (x ∷ xs) other = grind (arith, all-others key k c xs other, same_key-true)

-- two lists are equally long if they are so for each key
pub same_length : {X Y : Type 0} (key : X → Key) (key' : Y → Key) (n : ℕ) (xs : List X) (ys : List Y) → length xs ≤ n → ((k : Key) → length (of key k xs) ≡ length (of key' k ys)) → length xs ≡ length ys
same_length key key' n [] [] short each = refl
same_length key key' n [] (y ∷ ys) short each = absurd (let e : 0 ≡ suc (length (of key' (key' y) ys)) = each (key' y) ∙ ap (λ b. length (cond b (y ∷ of key' (key' y) ys) (of key' (key' y) ys))) (same_key-refl (key' y)) in omega arith)
same_length key key' zero (x ∷ xs) ys short each = absurd (omega arith)
same_length key key' (suc n) (x ∷ xs) ys short each =
    let c = key x in
    let left : length (x ∷ xs) ≡ length (of key c (x ∷ xs)) + length (others key c (x ∷ xs)) = of-others key c (x ∷ xs) in
    let right : length ys ≡ length (of key' c ys) + length (others key' c ys) = of-others key' c ys in
    let dropped : others key c (x ∷ xs) ≡ others key c xs = ap (λ b. cond (not b) (x ∷ others key c xs) (others key c xs)) (same_key-refl c) in
    let rest : (k : Key) → length (of key k (others key c xs)) ≡ length (of key' k (others key' c ys)) = λ k. by_key k (same_key k c) refl dropped in
    let ih : length (others key c xs) ≡ length (others key' c ys) = same_length key key' n (others key c xs) (others key' c ys) (omega (arith, of-others key c xs)) rest in
    let here = each c in
    let lengths : length (others key c (x ∷ xs)) ≡ length (others key c xs) = ap length dropped in
    omega arith
  where
    by_key : (k : Key) (b : Bool) → same_key k (key x) ≡ b → others key (key x) (x ∷ xs) ≡ others key (key x) xs → length (of key k (others key (key x) xs)) ≡ length (of key' k (others key' (key x) ys))
    by_key k true e dropped = grind (arith, same_key-true k (key x) e, none-others key (key x) xs, none-others key' (key x) ys)
    by_key k false e dropped = grind (arith, all-others)
