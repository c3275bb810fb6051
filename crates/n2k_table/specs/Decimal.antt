-- The decimal text of x / 10 ^ e.
use Rattle.std.specs.Prelude.{◌≡◌, ◌≢◌, ℕ, ℤ, pos, negsuc, ◌+◌, ◌-◌, ◌<◌, List, [], ◌∷◌, ◌++◌, length, take, drop}
use Rattle.std.specs.Prelude.{replicate, slice_index, decimal}
use Rattle.std.specs.Int.RustNames.{unsigned_abs}
use Rattle.std.specs.Str.Parse.{AllDigits, digits_value}

-- `-`, `.` and `0`
abbrev pub minus : ℕ
minus = 45

abbrev pub dot : ℕ
dot = 46

abbrev pub nought : ℕ
nought = 48

-- a minus sign if x is below zero
abbrev pub sign_of : ℤ → List ℕ
sign_of (pos n) = []
sign_of (negsuc n) = minus ∷ []

-- a dot and the decimals, and nothing if there are none
abbrev pub after_dot : List ℕ → List ℕ
after_dot [] = []
after_dot (d ∷ ds) = dot ∷ d ∷ ds

-- The text is x / 10 ^ e with exactly e decimals. One text is, and no other.
pub record IsDecimal (x : ℤ) (e : ℕ) (text : List ℕ) : Type 0 where
  -- the digits before the dot, and those after it
  pub whole : List ℕ
  pub decimals : List ℕ
  pub spelled : text ≡ sign_of x ++ (whole ++ after_dot decimals)
  pub digits : AllDigits 10 (whole ++ decimals)
  -- there are e decimals, and at least one digit before the dot
  pub count : length decimals ≡ e
  pub begins : 0 < length whole
  -- beside another digit before the dot no zero leads
  pub no_leading_zero : 1 < length whole → slice_index whole 0 ≢ nought
  -- the digits without the dot make the size of x
  pub size : digits_value 10 (whole ++ decimals) ≡ unsigned_abs x

-- the digits of n, with zeros before them if they are fewer than e + 1
abbrev pub padded_digits : ℕ → ℕ → List ℕ
padded_digits n e = replicate (e + 1 - length (decimal n)) nought ++ decimal n

-- digits with the dot before the last e
abbrev pub dotted : ℕ → List ℕ → List ℕ
dotted e ds = take (length ds - e) ds ++ after_dot (drop (length ds - e) ds)

-- the decimal text of x / 10 ^ e
unfoldable pub dec : ℤ → ℕ → List ℕ
dec x e = sign_of x ++ dotted e (padded_digits (unsigned_abs x) e)
