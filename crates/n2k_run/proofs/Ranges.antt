-- Parts of a list by their places.
use Rattle.std.proofs.Common.{◌≡◌, inl, inr, ℕ, ◌+◌, ◌-◌, ◌≤◌, List, ◌++◌, length, take, drop, sym, ap, ◌∙◌, arith, length-take, length-drop, min}
use Rattle.std.specs.List.{slice_range}
use Rattle.std.proofs.Math.Seq.{take-append-add}
use Rattle.std.proofs.lemmas.List.{append-nil, drop-append-le, drop-drop, drop-take, drop_all, length-take-le, take-take}
use Rattle.std.proofs.lemmas.Bool.{cases_lt}
use Rattle.std.proofs.lemmas.Slice.{between_is}
use borrow.Rule.Slice.PartMut.{mid_of, put_mid}

-- a range without its first bytes
pub range_drop : (b : List ℕ) (s e n : ℕ) → n ≤ length (slice_range b s e) → slice_range b (s + n) e ≡ drop n (slice_range b s e)
range_drop b s e n few = grind (arith, length-take (e - s) (drop s b), drop-take n (e - (s + n)) (drop s b), drop-drop n s b)

-- the first bytes of a range
pub range_take : (b : List ℕ) (s e n : ℕ) → n ≤ e - s → mid_of s (s + n - s) b ≡ take n (slice_range b s e)
range_take b s e n few = ap (λ k. take k (drop s b)) (let same : s + n - s ≡ n = omega arith in same) ∙ sym (take-take n (e - s) (drop s b) few)

pub length-range : (b : List ℕ) (s e : ℕ) → s ≤ e → e ≤ length b → length (slice_range b s e) ≡ e - s
length-range b s e in_order within = length-take-le (e - s) (drop s b) (omega (arith, length-drop s b, in_order, within))

-- a range and bytes appended to it
pub range_grown : (b ys : List ℕ) (s e k n : ℕ) → s ≤ e → e + k ≡ length b → length ys ≡ k → n ≤ k → slice_range (put_mid e k b ys) s (e + n) ≡ slice_range b s e ++ take n ys
range_grown b ys s e k n in_order whole size few = grind (arith, drop-drop, drop_all, put_mid, append-nil, length-take-le, drop-append-le, between_is, take-append-add)

-- a range without its first bytes, or without all of them
pub range_rest : (b : List ℕ) (s e n m : ℕ) → s ≤ e → e ≤ length b → m ≡ min e (s + n) → slice_range b m e ≡ drop n (slice_range b s e)
range_rest b s e n m in_order within is = elim (cases_lt e (s + n)) [
  | inl more ↦ ap (λ k. take k (drop m b)) (let none : e - m ≡ 0 = grind arith in none) ∙ sym (drop_all n (slice_range b s e) (omega (arith, length-range b s e in_order within, more)))
  | inr few ↦ ap (λ k. slice_range b k e) (let same : m ≡ s + n = grind arith in same) ∙ range_drop b s e n (omega (arith, length-range b s e in_order within, few))
]
