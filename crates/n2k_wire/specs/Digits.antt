-- Numbers as digits.
use Rattle.std.specs.Prelude.{ℕ, ◌+◌, ◌-◌, ◌*◌, ◌&&◌, nat_lt, nat_le, if◌then◌else◌, List, [], ◌∷◌, length, Option}
use Rattle.std.specs.Prelude.{Some, None, option_and_then}
use Rattle.std.specs.Char.{is_ascii_digit}

-- the value of a decimal digit
unfoldable pub decimal_digit : ℕ → Option ℕ
decimal_digit b = if is_ascii_digit b then Some (b - 48) else None

-- the number that decimal digits make, read on from the number of the digits before
unfoldable pub decimal_after : ℕ → List ℕ → Option ℕ
decimal_after before [] = Some before
decimal_after before (b ∷ digits) =
    option_and_then (λ digit. decimal_after (10 * before + digit) digits) (decimal_digit b)

-- the number that 1 to `most` decimal digits make
unfoldable pub decimal_number : ℕ → List ℕ → Option ℕ
decimal_number most digits =
    if nat_lt 0 (length digits) && nat_le (length digits) most then decimal_after 0 digits else None
