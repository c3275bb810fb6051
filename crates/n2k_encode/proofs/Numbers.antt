-- A number is accepted if its field can show it.
use Rattle.std.proofs.Common.{◌≢◌, ◌≡◌, ℕ, zero, suc, ◌+◌, ◌-◌, ◌*◌, ◌/◌, ◌%◌, ◌^◌, ◌<◌, ◌≤◌, ◌==◌, Bool, true, false, ◌&&◌, ◌||◌, nat_lt, nat_le, List, Option, Some, None, refl, ap, sym, ◌∙◌, subst, arith, inl, inr, pos, negsuc, ℤ, ◌*ℤ◌, neg_ℤ, ◌-ℤ◌, ◌+ℤ◌}
use Rattle.std.specs.Int.RustNames.{unsigned_abs}
use Rattle.std.proofs.lemmas.Bool.{cases_Bool, cases_lt}
use Rattle.std.proofs.lemmas.Int.{unsigned_abs-mul, ints}
use Rattle.fast_float.specs.Text.{scan}
use Rattle.json.specs.Json.{number}
use Rattle.n2k_table.specs.declared.resolution.Resolution.{Resolution}
use Rattle.n2k_table.specs.Bits.{greatest, signed_value, twos_complement}
use Rattle.n2k_table.specs.Shown.{shown_number, shown_shifted}
use Rattle.std.specs.Ordering.{int_eq}
use Rattle.std.proofs.Math.Nat.{mul-mod_left, mul-div_cancel, mul-le-mul_left, pow-suc}
use Rattle.n2k_encode.specs.declared.numeral.Magnitude.{Magnitude}
use Rattle.n2k_encode.specs.Numeral.{is_negative, digits_of, multiples, scaled}
use Rattle.n2k_encode.specs.Says.{has_sign, is_near, number_is, says}
use Rattle.n2k_encode.specs.Steps.{is_some_with}
use Rattle.n2k_encode.specs.Value.{number_raw, raw_number, reserved, shifted_raw, units_of, whole_raw, with_sign}

-- a value that says that none is there
abbrev says_none : Bool → ℕ → ℤ → Bool
says_none signed n value =
    (nat_le 2 n && int_eq value (pos (greatest signed n))) || (nat_le 4 n && int_eq value (pos (greatest signed n - 1)))

near_zero : (shown : ℕ) (given : Magnitude) → is_near 0 shown given ≡ true → given ≡ record { size = shown; more = false }
near_zero shown given e =
    let size : given.size ≡ shown = grind (arith, e) in
    let more : given.more ≡ false = grind (arith, e) in
    λ i. record { size = size i; more = more i }

near_some : (shown : ℕ) (o : Option Magnitude) → is_some_with (is_near 0 shown) o ≡ true → o ≡ Some (record { size = shown; more = false })
near_some shown None e = absurd cc
near_some shown (Some given) e = ap Some (near_zero shown given e)

pub both : (a b : Bool) → (a && b) ≡ true → (a ≡ true) × (b ≡ true)
both true b e = (refl, e)
both false b e = absurd cc

-- a shown number is the given one: its sign and its size
pub exactly : (x : ℤ) (e : ℕ) (text : List ℕ) → number_is 0 x e text ≡ true
    → (has_sign (is_negative text) x ≡ true) × (scaled (e + 1) (scan (digits_of text)) ≡ Some (record { size = 10 * unsigned_abs x; more = false }))
unfolding number_is
exactly x e text is =
    let parts = both (has_sign (is_negative text) x) _ is in
    (parts.0, near_some (10 * unsigned_abs x) (scaled (e + 1) (scan (digits_of text))) parts.1)

pub units_are : (m a parity : ℕ) → 0 < m → multiples false parity (10 * m) (record { size = 10 * (a * m); more = false }) ≡ Some a
unfolding multiples
units_are m a parity some =
    let unit : (10 * m == 0) ≡ false = grind (arith, some) in
    let product : 10 * (a * m) ≡ a * (10 * m) = omega arith in
    let positive : 0 < 10 * m = omega (arith, some) in
    let whole : a * (10 * m) % (10 * m) ≡ 0 = mul-mod_left a (10 * m) in
    let count : a * (10 * m) / (10 * m) ≡ a = mul-div_cancel a positive in
    rw (unit, product, whole, count) refl

-- the number of units
units_found : (a parity : ℕ) (res : Resolution) (text : List ℕ) → 0 < res.mantissa → scaled (res.decimals + 1) (scan (digits_of text)) ≡ Some (record { size = 10 * (a * res.mantissa); more = false })
    → units_of false parity res text ≡ Some a
unfolding units_of
units_found a parity res text some e = rw e (units_are res.mantissa a parity some)

above : (negative : Bool) (k : ℕ) → 0 < k → has_sign negative (pos k) ≡ true → negative ≡ false
above true zero some e = absurd (omega (arith, some))
above true (suc k) some e = absurd cc
above false k some e = refl

below_zero : (negative : Bool) (k : ℕ) → 0 < k → has_sign negative (neg_ℤ (pos k)) ≡ true → negative ≡ true
below_zero true k some e = refl
below_zero false zero some e = absurd (omega (arith, some))
below_zero false (suc k) some e = absurd cc

product : (a m : ℕ) → 0 < a → 0 < m → 0 < a * m
product a m some units = omega (arith, mul-le-mul_left a units)

pub not_negative : (negative : Bool) (a m : ℕ) → 0 < m → has_sign negative (pos a *ℤ pos m) ≡ true → (negative && nat_lt 0 a) ≡ false
not_negative true zero m units e = refl
not_negative false zero m units e = refl
not_negative negative (suc a) m units e = rw (above negative (suc a * m) (product (suc a) m (omega arith) units) e) refl

int_ne : (a g : ℕ) → int_eq (pos a) (pos g) ≡ false → a ≢ g
int_ne a g e same = grind (arith, e, same)

pub at_most : (a g : ℕ) → a ≤ g → nat_le a g ≡ true
at_most a g le = grind (arith, le)

if_true : (a b : Bool) → a ≡ true → (a && b) ≡ false → b ≡ false
if_true true b e f = f
if_true false b e f = absurd cc

neither : (a b : Bool) → (a || b) ≡ false → (a ≡ false) × (b ≡ false)
neither true b e = absurd cc
neither false b e = (refl, e)

-- the greatest values say that none is there
few : (signed : Bool) (n a : ℕ) → a ≤ greatest signed n → says_none signed n (pos a) ≡ false → nat_le (a + reserved n) (greatest signed n) ≡ true
few signed n a most there =
    let g = greatest signed n in
    let tests : ((nat_le 2 n && int_eq (pos a) (pos (greatest signed n))) ≡ false) × ((nat_le 4 n && int_eq (pos a) (pos (greatest signed n - 1))) ≡ false) = neither _ _ there in
    elim (cases_lt n 2) [
      | inl two ↦
          let none : reserved n ≡ 0 = grind (arith, two) in
          rw none (at_most (a + 0) g (omega (arith, most)))
      | inr up ↦
          let first : a ≢ g = int_ne a g (if_true (nat_le 2 n) _ (at_most 2 n up) tests.0) in
          elim (cases_lt n 4) [
            | inl four ↦
                let one : reserved n ≡ 1 = grind (arith, up, four) in
                rw one (at_most (a + 1) g (omega (arith, most, first)))
            | inr more ↦
                let second : a ≢ g - 1 = int_ne a (g - 1) (if_true (nat_le 4 n) _ (at_most 4 n more) tests.1) in
                let two : reserved n ≡ 2 = grind (arith, more) in
                rw two (at_most (a + 2) g (omega (arith, most, first, second)))
          ]
    ]

positive : (signed : Bool) (n a : ℕ) (negative : Bool) (m : ℕ) → 0 < m → a ≤ greatest signed n → has_sign negative (pos a *ℤ pos m) ≡ true → says_none signed n (pos a) ≡ false → raw_number signed n negative a ≡ Some a
unfolding raw_number
positive signed n a negative m units most sign there = rw (not_negative negative a m units sign, few signed n a most there) refl

-- a negative value in two's complement
negative_raw : (n raw b : ℕ) (negative : Bool) (m : ℕ) → 1 ≤ n → 0 < m → raw < 2 ^ n → 2 ^ (n - 1) ≤ raw → suc b + raw ≡ 2 ^ n → has_sign negative (negsuc b *ℤ pos m) ≡ true → raw_number true n negative (suc b) ≡ Some raw
unfolding raw_number
negative_raw n raw b negative m some units below half is sign =
    let minus : negative ≡ true = below_zero negative (suc b * m) (product (suc b) m (omega arith) units) sign in
    let before : n ≡ suc (n - 1) = omega (arith, some) in
    let double : 2 ^ n ≡ 2 * 2 ^ (n - 1) = ap (λ k. 2 ^ k) before ∙ grind (arith, pow-suc) in
    let some_test : nat_lt 0 (suc b) ≡ true = grind arith in
    let half_test : nat_le (suc b) (2 ^ (n - 1)) ≡ true = at_most (suc b) (2 ^ (n - 1)) (omega (arith, half, is, double)) in
    let value : 2 ^ n - suc b ≡ raw = omega (arith, is) in
    rw (minus, some_test, half_test, value) refl

below_whole : (x y : ℕ) → x < y → (pos x -ℤ pos y) ≡ negsuc (y - x - 1)
below_whole x y below = omega (arith, ints, below)

raw_found : (signed : Bool) (n raw : ℕ) (negative : Bool) (m : ℕ) → 1 ≤ n → 0 < m → raw < 2 ^ n → has_sign negative (signed_value signed n raw *ℤ pos m) ≡ true → says_none signed n (signed_value signed n raw) ≡ false
    → raw_number signed n negative (unsigned_abs (signed_value signed n raw)) ≡ Some raw
raw_found false n raw negative m some units below sign there = positive false n raw negative m units (omega (arith, below)) sign there
raw_found true n raw negative m some units below sign there = elim (cases_lt raw (2 ^ (n - 1))) [
  | inl front ↦
      let test : nat_lt raw (2 ^ (n - 1)) ≡ true = grind (arith, front) in
      let is : twos_complement n raw ≡ pos raw = rw test refl in
      let at = positive true n raw negative m units (omega (arith, front)) in
      subst (λ (v : ℤ). has_sign negative (v *ℤ pos m) ≡ true → says_none true n v ≡ false → raw_number true n negative (unsigned_abs v) ≡ Some raw) (sym is) at sign there
  | inr half ↦
      let test : nat_lt raw (2 ^ (n - 1)) ≡ false = grind (arith, half) in
      let b = 2 ^ n - raw - 1 in
      let is : twos_complement n raw ≡ negsuc b = rw test (below_whole raw (2 ^ n) below) in
      let at = negative_raw n raw b negative m some units below half (omega (arith, below)) in
      subst (λ (v : ℤ). has_sign negative (v *ℤ pos m) ≡ true → raw_number true n negative (unsigned_abs v) ≡ Some raw) (sym is) at sign
]

pub number_accepted : (signed : Bool) (n raw : ℕ) (res : Resolution) (text : List ℕ) → 1 ≤ n → 0 < res.mantissa → raw < 2 ^ n → says 0 (shown_number signed res n raw) (number text) ≡ true
    → number_raw false signed n res text ≡ Some raw
unfolding number_raw says
number_accepted signed n raw res text some units below e = elim (cases_Bool (says_none signed n (signed_value signed n raw))) [
  | inl absent ↦
      let no : false ≡ true = rw absent at e in
      absurd cc
  | inr there ↦
      let shown : number_is 0 (signed_value signed n raw *ℤ pos res.mantissa) res.decimals text ≡ true = rw there at e in
      let is = exactly (signed_value signed n raw *ℤ pos res.mantissa) res.decimals text shown in
      let size : unsigned_abs (signed_value signed n raw *ℤ pos res.mantissa) ≡ unsigned_abs (signed_value signed n raw) * res.mantissa = unsigned_abs-mul (signed_value signed n raw) (pos res.mantissa) in
      let found = units_found (unsigned_abs (signed_value signed n raw)) 0 res text units (rw size at is.1) in
      rw found (raw_found signed n raw (is_negative text) res.mantissa some units below is.0 there)
]

with_sign_is : (negative : Bool) (v : ℤ) (m : ℕ) → 0 < m → has_sign negative (v *ℤ pos m) ≡ true → with_sign negative (unsigned_abs v) ≡ v
with_sign_is true (pos zero) m units e = refl
with_sign_is false (pos zero) m units e = refl
with_sign_is negative (pos (suc a)) m units e = rw (above negative (suc a * m) (product (suc a) m (omega arith) units) e) refl
with_sign_is negative (negsuc b) m units e = rw (below_zero negative (suc b * m) (product (suc b) m (omega arith) units) e) refl

whole_found : (n raw : ℕ) (offset v : ℤ) → v ≡ pos raw +ℤ offset → raw < 2 ^ n → says_none false n (pos raw) ≡ false → whole_raw n (v -ℤ offset) ≡ Some raw
unfolding raw_number
whole_found n raw offset v is below there =
    let back : v -ℤ offset ≡ pos raw = omega (arith, ints, is) in
    let test = few false n raw (omega (arith, below)) there in
    rw (back, test) refl

pub shifted_accepted : (n raw : ℕ) (offset : ℤ) (res : Resolution) (text : List ℕ) → 0 < res.mantissa → raw < 2 ^ n → says 0 (shown_shifted offset res n raw) (number text) ≡ true
    → shifted_raw false n offset res text ≡ Some raw
unfolding shifted_raw says
shifted_accepted n raw offset res text units below e = elim (cases_Bool (says_none false n (pos raw))) [
  | inl absent ↦
      let no : false ≡ true = rw absent at e in
      absurd cc
  | inr there ↦
      let v : ℤ = pos raw +ℤ offset in
      let shown : number_is 0 ((pos raw +ℤ offset) *ℤ pos res.mantissa) res.decimals text ≡ true = rw there at e in
      let is = exactly ((pos raw +ℤ offset) *ℤ pos res.mantissa) res.decimals text shown in
      let size : unsigned_abs ((pos raw +ℤ offset) *ℤ pos res.mantissa) ≡ unsigned_abs (pos raw +ℤ offset) * res.mantissa = unsigned_abs-mul (pos raw +ℤ offset) (pos res.mantissa) in
      let found = units_found (unsigned_abs (pos raw +ℤ offset)) (unsigned_abs offset) res text units (rw size at is.1) in
      let signed = with_sign_is (is_negative text) (pos raw +ℤ offset) res.mantissa units is.0 in
      rw (found, signed) (whole_found n raw offset (pos raw +ℤ offset) refl below there)
]
