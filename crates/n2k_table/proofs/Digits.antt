-- Decimal digits, and the number that they make.
use Rattle.std.proofs.Common.{◌≡◌, ℕ, ◌+◌, ◌-◌, ◌*◌, ◌^◌, ◌<◌, ◌≤◌, true, ◌&&◌, cond, leb, List, [], ◌∷◌, ◌++◌, length, get_or, drop, Result, Ok, Err, refl, sym, ◌∙◌, arith}
use Rattle.std.specs.Char.{digit_value, is_ascii_digit}
use Rattle.std.specs.List.{list_all}
use Rattle.std.specs.Str.Parse.{digits_value_after}
use Rattle.std.proofs.lemmas.List.{drop_more, at_drop_all}
use Rattle.n2k_table.specs.declared.fault.TableFault.{TableFault}
use Rattle.n2k_table.specs.declared.fault.TableFault.TheVariants.{Range}
use Rattle.n2k_table.specs.declared.resolution.Resolution.{Resolution}
use Rattle.n2k_table.specs.Resolution.{of_parts}

-- the digit at a place, and the digits after it
pub digit_here : (ds : List ℕ) (i : ℕ) → i < length ds → list_all is_ascii_digit (drop i ds) ≡ true
    → (48 ≤ get_or ds i 0) × (get_or ds i 0 ≤ 57) × (list_all is_ascii_digit (drop (i + 1) ds) ≡ true)
digit_here ds i lt h = grind (arith, drop_more ds i 0 lt)

-- the number after one more digit
pub digit_read : (n : ℕ) (ds : List ℕ) (i : ℕ) → i < length ds → 48 ≤ get_or ds i 0 → get_or ds i 0 ≤ 57
    → digits_value_after 10 n (drop i ds) ≡ digits_value_after 10 (n * 10 + (get_or ds i 0 - 48)) (drop (i + 1) ds)
digit_read n ds i lt low high = grind (arith, drop_more)

-- the number only grows with more digits
pub digits_value_after-ge : (n : ℕ) (ds : List ℕ) → n ≤ digits_value_after 10 n ds
digits_value_after-ge n [] = omega arith
digits_value_after-ge n (d ∷ ds) = omega (arith, digits_value_after-ge (n * 10 + digit_value d) ds)

-- the number of digits in two parts
pub digits_value_after-append : (n : ℕ) (ds es : List ℕ) → digits_value_after 10 n (ds ++ es) ≡ digits_value_after 10 (digits_value_after 10 n ds) es
digits_value_after-append n [] es = refl
digits_value_after-append n (d ∷ ds) es = digits_value_after-append (n * 10 + digit_value d) ds es

-- one more digit makes no more than all of them
pub small_before : (n : ℕ) (ds : List ℕ) (i value : ℕ) → i < length ds → list_all is_ascii_digit (drop i ds) ≡ true
    → digits_value_after 10 n (drop i ds) ≡ value → n * 10 + (get_or ds i 0 - 48) ≤ value
small_before n ds i value lt all so_far = grind (arith, digit_here, digit_read, digits_value_after-ge)

-- after the last digit
pub digits_done : (n : ℕ) (ds : List ℕ) (i value : ℕ) → length ds ≤ i → digits_value_after 10 n (drop i ds) ≡ value → n ≡ value
digits_done n ds i value le so_far = sym (at_drop_all (digits_value_after 10 n) ds i le) ∙ so_far

of_number : ℕ → ℕ → Result Resolution TableFault
of_number v k = cond (leb 1 v && leb v 4294967295) (Ok (record { mantissa = v; decimals = k })) (Err Range)

-- the resolution of digits that make too large a number
pub of_parts_too_large : (whole decimals : List ℕ) → 2 ^ 32 ≤ digits_value_after 10 (digits_value_after 10 0 whole) decimals → of_parts whole decimals ≡ Err Range
unfolding of_number
of_parts_too_large whole decimals large = grind (arith, digits_value_after-append)

-- of digits whose first part does so
pub of_whole_too_large : (whole decimals : List ℕ) → 2 ^ 32 ≤ digits_value_after 10 0 whole → of_parts whole decimals ≡ Err Range
of_whole_too_large whole decimals large = grind (arith, of_parts_too_large, digits_value_after-ge)

-- of digits that are all zeros
pub of_parts_zero : (whole decimals : List ℕ) → digits_value_after 10 (digits_value_after 10 0 whole) decimals ≡ 0 → of_parts whole decimals ≡ Err Range
of_parts_zero whole decimals none = rw (digits_value_after-append 0 whole decimals ∙ none)

-- of digits whose number is in range
pub of_parts_fits : (whole decimals : List ℕ) (v : ℕ) → v ≡ digits_value_after 10 (digits_value_after 10 0 whole) decimals → v < 2 ^ 32 → 0 < v
    → of_parts whole decimals ≡ Ok (record { mantissa = v; decimals = length decimals })
unfolding of_number
of_parts_fits whole decimals v is small some = grind (arith, digits_value_after-append)
