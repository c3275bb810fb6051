-- What the code keeps of a number field, and what a raw value shows by that.
use Rattle.std.specs.Prelude.{◌≡◌, ℕ, ℤ, pos, neg_ℤ, ◌+ℤ◌, ◌*ℤ◌, false, ◌+◌, ◌-◌, ◌^◌, nat_le, if◌then◌else◌}
use Rattle.n2k_table.specs.declared.number.Number.{Number}
use Rattle.n2k_table.specs.declared.number.Scale.{Scale}
use Rattle.n2k_table.specs.declared.number.Shift.{Shift}
use Rattle.n2k_table.specs.Bits.{greatest}
use Rattle.n2k_table.specs.Shown.{ShownParts, absent, number}

-- the number without its dot
abbrev pub value_of : Number → ℤ
value_of n = (if n.negative then neg_ℤ (pos n.size) else pos n.size) *ℤ pos n.resolution.mantissa

-- how many values of n bits say that none is there, from the greatest down
abbrev pub reserved_values : ℕ → ℕ
reserved_values n = if nat_le 4 n then 2 else if nat_le 2 n then 1 else 0

-- What is kept of a number of n bits: the greatest value that counts, the greatest value, and the greatest raw value.
pub record IsScale (n : ℕ) (s : Scale) : Type 0 where
  pub max_valid : s.max_valid ≡ greatest s.signed n - reserved_values n
  pub max : s.max ≡ greatest s.signed n
  pub max_raw : s.max_raw ≡ 2 ^ n - 1

-- what a raw value shows by that
abbrev pub scaled : Scale → ℕ → ShownParts
scaled s r =
    if nat_le r s.max_valid then number (pos r *ℤ pos s.resolution.mantissa) s.resolution.decimals
    else if nat_le r s.max then absent
    else number (neg_ℤ (pos (s.max_raw - r + 1)) *ℤ pos s.resolution.mantissa) s.resolution.decimals

-- What is kept of a number of n bits with an offset: the greatest raw value that counts.
pub record IsShift (n : ℕ) (s : Shift) : Type 0 where
  pub max_valid : s.max_valid ≡ greatest false n - reserved_values n

-- the sum of a raw value and the offset, without its dot
abbrev pub shifted_value : Shift → ℕ → ℤ
shifted_value s r = (pos r +ℤ s.offset) *ℤ pos s.resolution.mantissa

-- what a raw value shows by that
abbrev pub shifted : Shift → ℕ → ShownParts
shifted s r = if nat_le r s.max_valid then number (shifted_value s r) s.resolution.decimals else absent
