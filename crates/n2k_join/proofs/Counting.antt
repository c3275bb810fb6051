-- A group without a repeated number has as many of the numbers below a limit as it has frames.
use Rattle.std.proofs.Common.{◌≡◌, ℕ, zero, suc, ◌+◌, ◌<◌, ◌≤◌, Bool, true, false, cond, ◌||◌, List, [], ◌∷◌, length, refl, ap, ◌∙◌, sym, arith, inl, inr, ◌==◌, count_by}
use Rattle.std.specs.List.{range_with_len, list_all, AllByRecursion}
use Rattle.std.proofs.lemmas.Bool.{eqb-true, eq-eqb, ne_eqb, or_parts, cases_eq}
use Rattle.std.proofs.lemmas.List.Sums.{sum_by-cons, count_by-le-length}
use Rattle.std.proofs.lemmas.List.FromFn.{length-range_with_len}
use Rattle.n2k_join.specs.Frames.{Frame}
use Rattle.n2k_join.specs.Groups.{has_number, has_twice}
use Rattle.n2k_join.proofs.Carried.{has_number-cons}

pub count_cons : {X : Type 0} (p : X → Bool) (x : X) (xs : List X) → count_by p (x ∷ xs) ≡ cond (p x) 1 0 + count_by p xs
count_cons p x xs = sum_by-cons (λ y. cond (p y) 1 0) x xs

-- two tests that never hold together
count_or : (p q : ℕ → Bool) (ns : List ℕ) → ((n : ℕ) → p n ≡ true → q n ≡ false) → count_by (λ n. p n || q n) ns ≡ count_by p ns + count_by q ns
count_or p q [] apart = refl
count_or p q (n ∷ ns) apart = grind (arith, count_or p q ns apart, count_cons (λ k. p k || q k) n ns, count_cons p n ns, count_cons q n ns)

-- a number counts once in a range that contains it, and not at all in a range above it
count_above : (x a m : ℕ) → x < a → count_by (λ n. x == n) (range_with_len a m) ≡ 0
count_above x a zero h = refl
count_above x a (suc m) h = rw (count_cons (λ n. x == n) a (range_with_len (a + 1) m), ne_eqb x a (omega arith), count_above x (a + 1) m (omega arith)) refl

count_within : (x a m : ℕ) → a ≤ x → x < a + m → count_by (λ n. x == n) (range_with_len a m) ≡ 1
count_within x a zero h k = absurd (omega arith)
count_within x a (suc m) h k =
    elim (cases_eq x a) [
      | inl same ↦ rw (count_cons (λ n. x == n) a (range_with_len (a + 1) m), eq-eqb x a same, count_above x (a + 1) m (omega arith)) refl
      | inr other ↦
          let low : a + 1 ≤ x = omega arith in
          let high : x < (a + 1) + m = omega arith in
          rw (count_cons (λ n. x == n) a (range_with_len (a + 1) m), ne_eqb x a other, count_within x (a + 1) m low high) refl
    ]

count_none : (ns : List ℕ) → count_by (λ n. false) ns ≡ 0
count_none [] = refl
count_none (n ∷ ns) = rw (count_cons (λ k. false) n ns, count_none ns) refl

count_agree : (p q : ℕ → Bool) → ((n : ℕ) → p n ≡ q n) → (ns : List ℕ) → count_by p ns ≡ count_by q ns
count_agree p q e [] = refl
count_agree p q e (n ∷ ns) = rw (count_cons p n ns, count_cons q n ns, e n, count_agree p q e ns) refl

-- the numbers below m that the frames have
abbrev pub numbers_below : ℕ → List Frame → ℕ
numbers_below m fs = count_by (λ n. has_number n fs) (range_with_len 0 m)

pub count_numbers : (m : ℕ) (fs : List Frame) → AllByRecursion (λ (f : Frame). f.number < m) fs → has_twice fs ≡ false → numbers_below m fs ≡ length fs
count_numbers m [] below apart = count_none (range_with_len 0 m)
count_numbers m (f ∷ fs) below apart =
    let parts = or_parts _ _ apart in
    count_agree _ _ (has_number-cons f fs) (range_with_len 0 m)
    ∙ (count_or (λ n. f.number == n) (λ n. has_number n fs) (range_with_len 0 m) (λ n same. ap (λ k. has_number k fs) (sym (eqb-true f.number n same)) ∙ parts.0)
    ∙ rw (count_within f.number 0 m (omega arith) (omega (arith, below.0)), count_numbers m fs below.1 parts.1) (omega arith))

eqb_suc : (c l : ℕ) → (c == l) ≡ ((1 + c) == suc l)
eqb_suc c l = grind arith

-- a test holds of each item exactly if the count of passing items is the length
all_by_count : (p : ℕ → Bool) (ns : List ℕ) → list_all p ns ≡ (count_by p ns == length ns)
all_by_count p [] = refl
all_by_count p (n ∷ ns) = grind (arith, all_by_count p ns, count_cons, eqb_suc, ne_eqb, count_by-le-length)

-- frames without a repeated number, all below m, have every number below m exactly if there are m frames
pub has_all_numbers : (m : ℕ) (fs : List Frame) → AllByRecursion (λ (f : Frame). f.number < m) fs → has_twice fs ≡ false → list_all (λ n. has_number n fs) (range_with_len 0 m) ≡ (length fs == m)
has_all_numbers m fs below apart = rw (all_by_count (λ n. has_number n fs) (range_with_len 0 m), count_numbers m fs below apart, length-range_with_len 0 m) refl
