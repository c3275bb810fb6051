-- The sizes of sets, and the sets that follow each other.
use Rattle.std.proofs.Common.{◌≡◌, ℕ, zero, suc, ◌+◌, ◌-◌, ◌*◌, ◌/◌, ◌≤◌, true, false, ◌||◌, List, [], ◌∷◌, length, take, drop, Option, Some, None, refl, sym, subst, ◌∙◌, inl, inr, arith, nat_le, option_map, option_and_then, length-drop}
use Rattle.std.specs.List.{list_any}
use Rattle.std.proofs.lemmas.Bool.{leb-true, or_cases, false≢true}
use Rattle.std.proofs.lemmas.Option.{cond_some, option_and_then_some}
use Rattle.n2k_table.specs.Strings.{data_after}
use Rattle.n2k_table.specs.Field.{FieldParts, Meaning, is_string}
use Rattle.n2k_table.specs.Repeat.{RepeatParts, own_bytes, strings_size, if_inside, set_size, sets_from, sets_in}
use Rattle.n2k_table.specs.Inner.Kept.{left_beside}
use Rattle.n2k_table.specs.Bits.{raw}
use Rattle.n2k_table.specs.Inner.FirstWord.{HasFirstBits}
use Rattle.n2k_table.proofs.RawBits.{first_bits_of_first}

pub no_strings : (fs : List FieldParts) (set : List ℕ) → list_any (λ f. is_string f.meaning) fs ≡ false → strings_size fs set ≡ Some 0
no_strings [] set none = refl
no_strings (f ∷ fs) set none = grind (arith, no_strings fs set)

-- so if there are none, all bytes are left
pub all_left : (fs : List FieldParts) (set : List ℕ) (room : ℕ) → list_any (λ f. is_string f.meaning) fs ≡ false → Some room ≡ left_beside room (strings_size fs set)
all_left fs set room none = grind (arith, no_strings)

some_of : (m : Meaning) (at : ℕ) (rest : Option (List ℕ)) (n : ℕ) → is_string m ≡ true → own_bytes m at rest ≡ Some n → 1 ≤ n
some_of m at rest n is e = grind arith

mapped : (o : Option ℕ) (k n : ℕ) → option_map (λ m. k + m) o ≡ Some n → (m : ℕ) × (o ≡ Some m) × (k + m ≡ n)
mapped o k n e = grind arith

strings_have_some : (fs : List FieldParts) (set : List ℕ) (n : ℕ) → list_any (λ f. is_string f.meaning) fs ≡ true → strings_size fs set ≡ Some n → 1 ≤ n
strings_have_some [] set n any e = absurd (false≢true any)
strings_have_some (f ∷ fs) set n any e =
    option_and_then_some (λ k. option_map (λ m. k + m) (strings_size fs set)) (own_bytes f.meaning f.at (data_after f.after set)) n e (λ k own both.
    let rest = mapped (strings_size fs set) k n both in
    let sum = rest.2 in
    elim (or_cases (is_string f.meaning) (list_any (λ f. is_string f.meaning) fs) any) [
      | inl is ↦ let le = some_of f.meaning f.at (data_after f.after set) k is own in omega (arith, le, sum)
      | inr more ↦ let le = strings_have_some fs set rest.0 more rest.1 in omega (arith, le, sum)
    ])

-- each set has a byte
abbrev HasByte : RepeatParts → Type 0
HasByte r = (bytes : List ℕ) (n : ℕ) → set_size r bytes ≡ Some n → 1 ≤ n

pub has_byte : (r : RepeatParts) (size : ℕ) → r.bits ≡ 8 * size → (nat_le 1 size || list_any (λ f. is_string f.meaning) r.fields) ≡ true → HasByte r
has_byte r size bits some = λ bytes n e.
    option_and_then_some (λ k. if_inside (r.bits / 8 + k) (length bytes)) (strings_size r.fields bytes) n e (λ k strings inside.
    let is : r.bits / 8 + k ≡ n = (cond_some _ _ _ inside).1 in
    let eighth : r.bits / 8 ≡ size = omega (arith, bits) in
    elim (or_cases (nat_le 1 size) (list_any (λ f. is_string f.meaning) r.fields) some) [
      | inl one ↦ let le = leb-true 1 size one in omega (arith, is, eighth, le)
      | inr any ↦ let le = strings_have_some r.fields bytes k any strings in omega (arith, is, le)
    ])

none_of_nothing : (r : RepeatParts) (most : ℕ) (bytes : List ℕ) (o : Option ℕ) → set_size r bytes ≡ o → HasByte r → length bytes ≤ 0 → [] ≡ sets_from r (suc most) bytes
none_of_nothing r most bytes o e some few = grind arith

same_step : (r : RepeatParts) (a b : ℕ) (bytes : List ℕ) (o : Option ℕ) → set_size r bytes ≡ o → HasByte r → length bytes ≤ suc a → length bytes ≤ suc b
    → ((bs : List ℕ) → length bs ≤ a → length bs ≤ b → sets_from r a bs ≡ sets_from r b bs) → sets_from r (suc a) bytes ≡ sets_from r (suc b) bytes
same_step r a b bytes o e some la lb rest = grind (arith, length-drop)

-- It does not matter how many there may be, if these are as many as bytes.
enough : (r : RepeatParts) → HasByte r → (a b : ℕ) (bytes : List ℕ) → length bytes ≤ a → length bytes ≤ b → sets_from r a bytes ≡ sets_from r b bytes
enough r some zero zero bytes la lb = refl
enough r some zero (suc b) bytes la lb = none_of_nothing r b bytes (set_size r bytes) refl some la
enough r some (suc a) zero bytes la lb = sym (none_of_nothing r a bytes (set_size r bytes) refl some lb)
enough r some (suc a) (suc b) bytes la lb = same_step r a b bytes (set_size r bytes) refl some la lb (λ bs. enough r some a b bs)

-- a set, and the sets after it
pub one_set : (r : RepeatParts) (bytes : List ℕ) (n : ℕ) → HasByte r → set_size r bytes ≡ Some n → take n bytes ∷ sets_in r (drop n bytes) ≡ sets_in r bytes
one_set r [] n some e = grind arith
one_set r (b ∷ bs) n some e = grind (arith, length-drop, enough)

some_left : (s : Option ℕ) (size all left : ℕ) → size ≤ all → left_beside (all - size) s ≡ Some left → option_and_then (λ n. if_inside (size + n) all) s ≡ Some (all - left)
some_left s size all left le e = grind arith

eighth : (r : RepeatParts) (size : ℕ) (bytes : List ℕ) → r.bits ≡ 8 * size → set_size r bytes ≡ option_and_then (λ n. if_inside (size + n) (length bytes)) (strings_size r.fields bytes)
eighth r size bytes bits = grind arith

pub is_left : (r : RepeatParts) (size left : ℕ) (bytes : List ℕ) → r.bits ≡ 8 * size → size ≤ length bytes
    → left_beside (length bytes - size) (strings_size r.fields bytes) ≡ Some left → set_size r bytes ≡ Some (length bytes - left)
is_left r size left bytes bits le e = eighth r size bytes bits ∙ some_left (strings_size r.fields bytes) size (length bytes) left le e

-- a set before others is the first of the bytes
head : (o : Option ℕ) (r : RepeatParts) (most : ℕ) (bytes set : List ℕ) (more : List (List ℕ)) → set_size r bytes ≡ o
    → set ∷ more ≡ sets_from r (suc most) bytes → (n : ℕ) × (set ≡ take n bytes)
head None r most bytes set more size e = absurd (grind (arith, size, e))
head (Some n) r most bytes set more size e = (n, grind (arith, size, e))

pub first_set : (r : RepeatParts) (bytes set : List ℕ) (more : List (List ℕ)) → set ∷ more ≡ sets_in r bytes → (n : ℕ) × (set ≡ take n bytes)
first_set r [] set more e = absurd cc
first_set r (b ∷ bs) set more e = head (set_size r (b ∷ bs)) r (length bs) (b ∷ bs) set more refl e

-- so the first word of the bytes has the bits of the set
pub set_first_bits : (r : RepeatParts) (bytes set : List ℕ) (more : List (List ℕ)) (word : ℕ) → set ∷ more ≡ sets_in r bytes → word ≡ raw bytes 0 64 → HasFirstBits word set
set_first_bits r bytes set more word e is =
    let first = first_set r bytes set more e in
    subst (λ s. HasFirstBits word s) (sym first.1) (first_bits_of_first first.0 bytes word is)
