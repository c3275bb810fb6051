-- Reading digits from the left, one at a time.
use Rattle.std.proofs.Common.{◌≡◌, ℕ, suc, ◌+◌, ◌*◌, ◌^◌, ◌<◌, ◌≤◌, List, [], ◌∷◌, length, get_or, drop, Option, Some, None, refl, arith, add-one}
use Rattle.std.proofs.Math.Nat.{pow-succ', pow-le-pow_right}
use Rattle.std.proofs.Math.Seq.{drop-cons, drop-length}
use Rattle.n2k_wire.specs.Digits.{decimal_after, decimal_digit}

after-digit : (before b digit : ℕ) (digits : List ℕ) → Some digit ≡ decimal_digit b → decimal_after before (b ∷ digits) ≡ decimal_after (10 * before + digit) digits
unfolding decimal_after
after-digit before b digit digits e = rw (← e) refl

after-other : (before b : ℕ) (digits : List ℕ) → None ≡ decimal_digit b → decimal_after before (b ∷ digits) ≡ None
unfolding decimal_after
after-other before b digits e = rw (← e) refl

pub after-none : (before : ℕ) → decimal_after before [] ≡ Some before
unfolding decimal_after
after-none before = refl

-- one digit more is read
pub reads_on : (digits : List ℕ) (before i digit : ℕ) (total : Option ℕ) → i < length digits → Some digit ≡ decimal_digit (get_or digits i 0)
    → decimal_after before (drop i digits) ≡ total → decimal_after (10 * before + digit) (drop (i + 1) digits) ≡ total
reads_on digits before i digit total lt e so_far = grind (arith, drop-cons, after-digit)

-- another byte ends the reading
pub ends_at : (digits : List ℕ) (before i : ℕ) (total : Option ℕ) → i < length digits → None ≡ decimal_digit (get_or digits i 0)
    → decimal_after before (drop i digits) ≡ total → None ≡ total
ends_at digits before i total lt e so_far = grind (arith, drop-cons, after-other)

pub all_read : (digits : List ℕ) (before i : ℕ) (total : Option ℕ) → i ≡ length digits → decimal_after before (drop i digits) ≡ total → Some before ≡ total
all_read digits before i total e so_far = grind (arith, after-none, drop-length)

-- one digit more keeps the number below its power of ten
pub fits_digits : (number digit i : ℕ) → number < 10 ^ i → digit ≤ 9 → i < 18 → (10 * number + digit < 10 ^ (i + 1)) × (10 * number + digit < 2 ^ 64)
fits_digits number digit i small one lt =
    let up : 10 ^ suc i ≡ 10 * 10 ^ i = pow-succ' 10 i in
    let ten : 0 < 10 = omega arith in
    let few : suc i ≤ 18 = omega arith in
    let top : 10 ^ suc i ≤ 10 ^ 18 = pow-le-pow_right ten few in
    (rw add-one (omega arith), omega arith)
