-- Digits as single bytes, by arithmetic.
use Rattle.std.specs.Prelude.{ℕ, ◌+◌, ◌-◌, ◌*◌, ◌/◌, ◌%◌, if◌then◌else◌, nat_lt}

-- The value of a hexadecimal digit, by arithmetic: `0` to `9` are 48 to 57, `A` to `F` 65 to 70, `a` to `f` 97 to 102,
-- so the letters, at 64 and above, count from 10.
abbrev pub hex_value : ℕ → ℕ
hex_value digit = digit % 16 + digit / 64 * 9

-- The digit of a number below 16, by arithmetic: figures below 10, letters from `letter` on from there. It is a lane of
-- eight bits.
abbrev pub digit_lane : ℕ → ℕ → ℕ
digit_lane letter n = (n + (if nat_lt 9 n then letter - 10 else 48)) % 256
