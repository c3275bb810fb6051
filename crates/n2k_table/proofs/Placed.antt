-- The digits of a number as they stand in an array, with zeros before them.
use Rattle.std.proofs.Common.{◌≡◌, ℕ, ◌+◌, ◌-◌, ◌<◌, ◌≤◌, List, ◌∷◌, ◌++◌, length, take, drop, replicate, sym, ap, ◌∙◌, append_assoc, arith, decimal}
use Rattle.std.proofs.lemmas.List.{length-append, length-replicate, length-drop, take-append-drop, take-take, take_at, take-append-le, take_all, drop-append-le, drop-replicate, drop_all, append-nil}
use Rattle.n2k_table.specs.Decimal.{after_dot, padded_digits, dotted}

-- from a place on: as many zeros as stand there before the digits, and then the digits
pub placed : (digits ds after : List ℕ) (first from : ℕ) → take first digits ≡ replicate first 48 → drop first digits ≡ ds ++ after → from ≤ first
    → drop from digits ≡ (replicate (first - from) 48 ++ ds) ++ after
placed digits ds after first from zeros is le =
    let whole : replicate first 48 ++ (ds ++ after) ≡ digits = rw (zeros, is) at (take-append-drop first digits) in
    let prefix : drop from (replicate first 48) ≡ replicate (first - from) 48 = drop-replicate from first 48 in
    ap (drop from) (sym whole)
    ∙ drop-append-le from (replicate first 48) (ds ++ after) (omega (arith, length-replicate {A = ℕ} first 48))
    ∙ ap (λ (zs : List ℕ). zs ++ (ds ++ after)) prefix
    ∙ sym (append_assoc (replicate (first - from) 48) ds after)

pub length_padded : (n e : ℕ) → length (padded_digits n e) ≡ (e + 1 - length (decimal n)) + length (decimal n)
length_padded n e = grind (arith, length-append, length-replicate)

-- the digits before the dot, of some that are taken at once
before_placed : (ds after : List ℕ) (k : ℕ) → k ≤ length ds → k ≤ 24 → take k (take 24 (ds ++ after)) ≡ take k ds
before_placed ds after k le few = take-take k 24 (ds ++ after) few ∙ take-append-le k ds after le

-- the dot and the digits after it
after_placed : (ds after : List ℕ) (k e : ℕ) → k + e ≡ length ds → 0 < e → e + 1 ≤ 24 → take (e + 1) (take 24 (46 ∷ drop k (ds ++ after))) ≡ after_dot (drop k ds)
after_placed ds after k e len some few = grind (arith, length-drop k ds, take-take (e + 1) 24 (46 ∷ drop k (ds ++ after)) few, drop-append-le k ds after (omega arith), take_at)

-- a whole number has no dot
pub whole_is : (n : ℕ) → 0 < length (decimal n) → dotted 0 (padded_digits n 0) ≡ decimal n
whole_is n some = grind (arith, take_all, drop_all, append-nil)

-- digits without a dot, appended at once
pub onto_whole : (ds after prefix l0 l1 : List ℕ) (k e : ℕ) → e ≡ 0 → prefix ≡ ds ++ after → k ≡ length ds → k ≤ 24 → l1 ≡ l0 ++ take k (take 24 prefix) → l1 ≡ l0 ++ dotted e ds
onto_whole ds after prefix l0 l1 k e zero is len few so_far = grind (arith, before_placed, drop_all, append-nil)

-- digits with a dot, appended in two parts
pub onto_parts : (ds after prefix dot l0 l1 l2 : List ℕ) (k e : ℕ) → prefix ≡ ds ++ after → k + e ≡ length ds → k ≤ 24 → 0 < e → e + 1 ≤ 24
    → l1 ≡ l0 ++ take k (take 24 prefix) → dot ≡ 46 ∷ drop k prefix → l2 ≡ l1 ++ take (e + 1) (take 24 dot) → l2 ≡ l0 ++ dotted e ds
onto_parts ds after prefix dot l0 l1 l2 k e is len few some short p1 at p2 = grind (arith, before_placed, after_placed, append_assoc)
