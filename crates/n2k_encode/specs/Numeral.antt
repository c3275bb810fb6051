-- The exact value of a JSON number, which may have any number of digits and any exponent.
use Rattle.std.specs.Prelude.{ℕ, ◌+◌, ◌-◌, ◌*◌, ◌/◌, ◌%◌, ◌^◌, ◌==◌, nat_lt, Bool, false, not, ◌&&◌, ◌||◌}
use Rattle.std.specs.Prelude.{List, [], ◌∷◌, ◌++◌, length, take, drop, Option, Some, None, if◌then◌else◌}
use Rattle.std.specs.Str.Parse.{digits_value}
use Rattle.fast_float.specs.Text.{Parts}
use Rattle.n2k_encode.specs.declared.numeral.Magnitude.{Magnitude}

-- a minus sign comes first
abbrev pub is_negative : List ℕ → Bool
is_negative [] = false
is_negative (b ∷ bs) = b == 45

-- a number without its sign
abbrev pub digits_of : List ℕ → List ℕ
digits_of [] = []
digits_of (b ∷ bs) = if b == 45 then bs else b ∷ bs

-- the digits before and after the point
abbrev pub all_digits : Parts → List ℕ
all_digits p = p.whole ++ p.fraction

-- the place among these digits of the point of the number times 10 ^ k
abbrev pub point : ℕ → Parts → ℕ
point k p =
    if p.exponent_negative then length p.whole + k - digits_value 10 p.exponent
    else length p.whole + k + digits_value 10 p.exponent

-- the whole part of the number times 10 ^ k: the digits before the point, with zeros up to it
abbrev pub whole_part : ℕ → Parts → ℕ
whole_part k p =
    digits_value 10 (take (point k p) (all_digits p)) * 10 ^ (point k p - length (all_digits p))

-- a digit after the point is not 0
abbrev pub has_fraction : ℕ → Parts → Bool
has_fraction k p = not (digits_value 10 (drop (point k p) (all_digits p)) == 0)

-- The number times 10 ^ k: its whole part, and whether a fraction follows. A number of more than 100 bits, which no
-- field can show, has none.
unfoldable pub scaled : ℕ → Parts → Option Magnitude
scaled k p =
    if nat_lt (whole_part k p) (2 ^ 100) then Some (record { size = whole_part k p; more = has_fraction k p }) else None

-- the size is a multiple of the unit
abbrev pub is_multiple : ℕ → Magnitude → Bool
is_multiple unit s = s.size % unit == 0 && not s.more

-- the next multiple is nearer than the one before, or as near, and the one before makes an odd sum
abbrev pub rounds_up : ℕ → ℕ → Magnitude → Bool
rounds_up parity unit s =
    nat_lt unit (2 * (s.size % unit))
    || (2 * (s.size % unit) == unit && (s.more || (s.size / unit + parity) % 2 == 1))

-- How many units a size is: exactly, or the nearest number of them. Of two that are as near, the one is taken whose sum
-- with `parity` is even.
unfoldable pub multiples : Bool → ℕ → ℕ → Magnitude → Option ℕ
multiples nearest parity unit s =
    if unit == 0 then None
    else if is_multiple unit s then Some (s.size / unit)
    else if not nearest then None
    else Some (if rounds_up parity unit s then s.size / unit + 1 else s.size / unit)
