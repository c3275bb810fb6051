-- The bits of a raw value that are 1, one after the other.
use Rattle.std.proofs.Common.{◌≡◌, ℕ, ◌+◌, ◌-◌, ◌^◌, ◌<◌, ◌≤◌, true, false, [], ◌∷◌, arith}
use Rattle.n2k_table.specs.Bits.{has_bit, bits_set}
use Rattle.std.proofs.Math.Nat.{div-eq_of_lt}
use Rattle.n2k_table.proofs.RawBits.{pow_le}

-- a bit past those of the value is 0
pub bit_past : (r i : ℕ) → r < 2 ^ 64 → 64 ≤ i → has_bit r i ≡ false
bit_past r i lt past = grind (arith, pow_le 64 i past, div-eq_of_lt)

-- the first bit is 1
pub bit_here : (r i e : ℕ) → i < e → has_bit r i ≡ true → bits_set r i (e - i) ≡ i ∷ bits_set r (i + 1) (e - (i + 1))
bit_here r i e lt one = grind arith

-- the first bit is 0
pub bit_passed : (r i e : ℕ) → i < e → has_bit r i ≡ false → bits_set r i (e - i) ≡ bits_set r (i + 1) (e - (i + 1))
bit_passed r i e lt zero = grind arith

-- there is none
pub no_bit : (r i e : ℕ) → e ≤ i → bits_set r i (e - i) ≡ []
no_bit r i e le = grind arith
