-- What a raw value shows by what is kept of its field, and numbers whose sign is kept apart.
use Rattle.std.proofs.Common.{◌≡◌, ℕ, zero, suc, ◌+◌, ◌-◌, ◌*◌, ◌^◌, ◌<◌, ◌≤◌, Bool, true, false, not, ◌&&◌, ◌||◌, ℤ, pos, neg_ℤ, ◌*ℤ◌, List, [], ◌∷◌, if◌then◌else◌, nat_le, nat_lt, unsigned_abs, refl, sym, ap, ◌∙◌, arith, inl, inr}
use Rattle.std.proofs.Math.IntN.{pos-*ℤ-pos, negsuc-*ℤ-pos}
use Rattle.std.proofs.lemmas.Bool.{le-leb, lt-leb, lt-ltb, cases_lt}
use Rattle.std.proofs.lemmas.Bool.Decides.{Decides-int_eq}
use Rattle.std.specs.Int.Signed.{lt_z}
use Rattle.std.specs.Ordering.{int_eq}
use Rattle.n2k_table.specs.declared.field.Meaning.{Meaning as CodeMeaning}
use Rattle.n2k_table.specs.declared.field.Meaning.TheVariants as code
use Rattle.n2k_table.specs.declared.number.Number.{Number}
use Rattle.n2k_table.specs.declared.number.Scale.{Scale}
use Rattle.n2k_table.specs.declared.number.Shift.{Shift}
use Rattle.n2k_table.specs.Bits.{raw, greatest, signed_value}
use Rattle.n2k_table.specs.Decimal.{minus, sign_of}
use Rattle.n2k_table.specs.Field.{FieldParts}
use Rattle.n2k_table.specs.Shown.{absent, number, shown_number, shown_shifted, lies_inside, shown_from}
use Rattle.n2k_table.specs.Inner.Kept.{HasRoom, meaning}
use Rattle.n2k_table.specs.Inner.Number.{IsScale, IsShift, reserved_values, scaled, shifted, value_of}
use Rattle.n2k_table.proofs.RawBits.{pow_le}

-- the product of a size and a mantissa, its sign apart
product : (b : Bool) (k m : ℕ) → (if b then neg_ℤ (pos k) else pos k) *ℤ pos m ≡ (if b then neg_ℤ (pos (k * m)) else pos (k * m))
product false k m = pos-*ℤ-pos k m
product true zero m = let none : 0 * m ≡ 0 = omega arith in pos-*ℤ-pos 0 m ∙ ap pos none ∙ sym (ap (λ k. neg_ℤ (pos k)) none)
product true (suc k) m = negsuc-*ℤ-pos k m

-- the size of a number
checked_text : (b : Bool) (k : ℕ) → k ≡ unsigned_abs (if b then neg_ℤ (pos k) else pos k)
checked_text false k = refl
checked_text true zero = refl
checked_text true (suc k) = refl

pub size_is : (n : Number) → n.size * n.resolution.mantissa ≡ unsigned_abs (value_of n)
size_is n = checked_text n.negative (n.size * n.resolution.mantissa) ∙ ap unsigned_abs (sym (product n.negative n.size n.resolution.mantissa))

-- and its sign
signed_so : (b : Bool) (k : ℕ) → (if b && nat_lt 0 k then minus ∷ [] else []) ≡ sign_of (if b then neg_ℤ (pos k) else pos k)
signed_so false k = refl
signed_so true zero = refl
signed_so true (suc k) = rw (lt-ltb 0 (suc k) (omega arith)) refl

pub sign_is : (n : Number) → (if n.negative && nat_lt 0 (n.size * n.resolution.mantissa) then minus ∷ [] else []) ≡ sign_of (value_of n)
sign_is n = signed_so n.negative (n.size * n.resolution.mantissa) ∙ ap sign_of (sym (product n.negative n.size n.resolution.mantissa))

-- the sign of a number whose sign does not
pub sign_of_below : (x : ℤ) → (if lt_z x (pos 0) && nat_lt 0 (unsigned_abs x) then minus ∷ [] else []) ≡ sign_of x
sign_of_below x = grind arith

-- the equality of integers at natural numbers
same_int : (m n : ℕ) → m ≡ n → int_eq (pos m) (pos n) ≡ true
same_int m n is = (Decides-int_eq (pos m) (pos n)).1 (ap pos is)

-- the values that count are those up to the last
counts : (n g r : ℕ) → r ≤ g → (2 ≤ n → 1 ≤ g) → (4 ≤ n → 2 ≤ g)
    → nat_le r (g - reserved_values n) ≡ not ((nat_le 2 n && int_eq (pos r) (pos g)) || (nat_le 4 n && int_eq (pos r) (pos (g - 1))))
counts n g r inside one more = grind (arith, lt-leb, le-leb, same_int)

-- how great the greatest value is at least
greatest_of_two : (signed : Bool) (n : ℕ) → 2 ≤ n → 1 ≤ greatest signed n
greatest_of_two signed n le = grind (arith, pow_le 1 (n - 1) (omega arith), pow_le 2 n le)

greatest_of_four : (signed : Bool) (n : ℕ) → 4 ≤ n → 2 ≤ greatest signed n
greatest_of_four signed n le = grind (arith, pow_le 3 (n - 1) (omega arith), pow_le 4 n le)

-- up to the greatest value a raw value is the value
value_upto : (signed : Bool) (n r : ℕ) → r ≤ greatest signed n → signed_value signed n r ≡ pos r
value_upto false n r le = refl
value_upto true n r le = grind (arith, pow_le 0 (n - 1) (omega arith))

-- past it, it is a negative one
value_past : (n r : ℕ) → 1 ≤ n → greatest true n < r → r < 2 ^ n → signed_value true n r ≡ neg_ℤ (pos (2 ^ n - 1 - r + 1))
value_past n r some past lt = grind arith

shows_upto : (n r : ℕ) (s : Scale) → IsScale n s → r ≤ greatest s.signed n
    → (if nat_le r s.max_valid then number (pos r *ℤ pos s.resolution.mantissa) s.resolution.decimals else absent) ≡ shown_number s.signed s.resolution n r
shows_upto n r s h le = grind (arith, counts, greatest_of_two, greatest_of_four, value_upto)

shows_past : (signed : Bool) (n r : ℕ) (s : Scale) → s.signed ≡ signed → 1 ≤ n → IsScale n s → r < 2 ^ n → greatest signed n < r
    → number (neg_ℤ (pos (s.max_raw - r + 1)) *ℤ pos s.resolution.mantissa) s.resolution.decimals ≡ shown_number signed s.resolution n r
shows_past signed n r s is some h lt past = grind (arith, value_past)

-- a raw value shows by what is kept what its bits show
pub scaled_is : (n r : ℕ) (s : Scale) → 1 ≤ n → IsScale n s → r < 2 ^ n → scaled s r ≡ shown_number s.signed s.resolution n r
scaled_is n r s some h lt =
    let order : s.max_valid ≤ s.max = omega (arith, h.max_valid, h.max) in
    elim (cases_lt s.max r) [
      | inl past ↦ rw (lt-leb r s.max_valid (omega (arith, order, past)), lt-leb r s.max past) (shows_past s.signed n r s refl some h lt (omega (arith, h.max)))
      | inr le ↦ rw (le-leb r s.max le) (shows_upto n r s h (omega (arith, h.max)))
    ]

-- the same of a number with an offset
pub shifted_is : (n r : ℕ) (s : Shift) → IsShift n s → r < 2 ^ n → shifted s r ≡ shown_shifted s.offset s.resolution n r
shifted_is n r s h lt = grind (arith, counts n (greatest false n) r (omega arith) (greatest_of_two false n) (greatest_of_four false n))

-- a field shows so
pub field_shows : (f : FieldParts) (payload : List ℕ) (m : CodeMeaning) (s : Scale) (r : ℕ) → f.meaning ≡ meaning m → m ≡ code.Number s
    → HasRoom m f.bits → r ≡ raw payload f.at f.bits → r < 2 ^ f.bits → lies_inside f payload ≡ true → scaled s r ≡ shown_from f payload
field_shows f payload m s r means is room so lt inside = grind (arith, scaled_is)

pub field_shows_shifted : (f : FieldParts) (payload : List ℕ) (m : CodeMeaning) (s : Shift) (r : ℕ) → f.meaning ≡ meaning m → m ≡ code.Shifted s
    → HasRoom m f.bits → r ≡ raw payload f.at f.bits → r < 2 ^ f.bits → lies_inside f payload ≡ true → shifted s r ≡ shown_from f payload
field_shows_shifted f payload m s r means is room so lt inside = grind (arith, shifted_is)
