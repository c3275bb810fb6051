-- The bits of a message: raw values, unsigned and signed.
use Rattle.std.specs.Prelude.{ℕ, zero, suc, ℤ, pos, ◌-ℤ◌, ◌+◌, ◌*◌, ◌-◌, ◌/◌, ◌%◌, ◌^◌, ◌==◌, Bool, true, false, nat_lt}
use Rattle.std.specs.Prelude.{List}
use Rattle.std.specs.Prelude.{[], ◌∷◌, slice_index, if◌then◌else◌}

-- bit i: bit i mod 8 of byte i div 8, the least significant first
abbrev pub bit : List ℕ → ℕ → ℕ
bit payload i = slice_index payload (i / 8) / 2 ^ (i % 8) % 2

-- The raw value of n bits from bit a on: the sum of bit a + j times 2 ^ j, for each j below n.
unfoldable pub raw : List ℕ → ℕ → ℕ → ℕ
raw payload a zero = 0
raw payload a (suc j) = raw payload a j + bit payload (a + j) * 2 ^ j

-- the raw value r of n bits in two's complement: below the half of 2 ^ n it is itself, and else it is less by 2 ^ n
abbrev pub twos_complement : ℕ → ℕ → ℤ
twos_complement n r = if nat_lt r (2 ^ (n - 1)) then pos r else pos r -ℤ pos (2 ^ n)

-- the value of n bits with that raw value, signed or not
abbrev pub signed_value : Bool → ℕ → ℕ → ℤ
signed_value true n r = twos_complement n r
signed_value false n r = pos r

-- the greatest value of n bits
abbrev pub greatest : Bool → ℕ → ℕ
greatest true n = 2 ^ (n - 1) - 1
greatest false n = 2 ^ n - 1

-- bit i of a raw value is 1
abbrev pub has_bit : ℕ → ℕ → Bool
has_bit r i = r / 2 ^ i % 2 == 1

-- of n bits of a raw value, from bit i on, the numbers of those that are 1, rising
abbrev pub bits_set : ℕ → ℕ → ℕ → List ℕ
bits_set r i zero = []
bits_set r i (suc n) = if has_bit r i then i ∷ bits_set r (i + 1) n else bits_set r (i + 1) n
