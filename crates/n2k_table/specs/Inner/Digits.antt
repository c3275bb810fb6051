-- Digits before and after a dot, as the code has them.
use Rattle.std.specs.Prelude.{◌≡◌, ◌≤◌, ◌+◌, ◌-◌, ◌*◌, ◌/◌, ◌%◌, ◌^◌, ℕ, true, List, ◌∷◌, ◌++◌, length, replicate}
use Rattle.std.specs.Char.{is_ascii_digit}
use Rattle.std.specs.List.{list_all}
use Rattle.n2k_table.specs.Decimal.{dot, nought}
use Rattle.n2k_table.specs.Resolution.{most_decimals}

-- e digits after the dot, of which the last are these, and a zero before it
abbrev pub zero_filled : ℕ → List ℕ → List ℕ
zero_filled e ds = nought ∷ dot ∷ (replicate (e - length ds) nought ++ ds)

-- digits alone, and not too many after the dot
abbrev pub ArePartsOfDigits : List ℕ → List ℕ → Type 0
ArePartsOfDigits whole decimals =
    (list_all is_ascii_digit whole ≡ true) × (list_all is_ascii_digit decimals ≡ true)
    × (length decimals ≤ most_decimals)

-- the four pairs of digits of a number below 10 ^ 8 as parts of a word, the first of them the lowest
abbrev pub pairs_word : ℕ → ℕ
pairs_word n = n / 10 ^ 6 + n / 10 ^ 4 % 100 * 2 ^ 16 + n / 10 ^ 2 % 100 * 2 ^ 32 + n % 100 * 2 ^ 48

-- the eight digits of a number below 10 ^ 8 as the bytes of a word, the first of them the lowest
abbrev pub values_word : ℕ → ℕ
values_word n =
    n / 10 ^ 7 % 10 + n / 10 ^ 6 % 10 * 2 ^ 8 + n / 10 ^ 5 % 10 * 2 ^ 16 + n / 10 ^ 4 % 10 * 2 ^ 24
    + n / 10 ^ 3 % 10 * 2 ^ 32 + n / 10 ^ 2 % 10 * 2 ^ 40 + n / 10 % 10 * 2 ^ 48 + n % 10 * 2 ^ 56
