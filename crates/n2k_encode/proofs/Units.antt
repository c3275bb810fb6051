-- Numbers of units are no greater than what is scaled.
use Rattle.std.proofs.Common.{◌≡◌, ℕ, ◌+◌, ◌*◌, ◌≤◌, ◌^◌, Bool, List, Option, Some, None, arith, refl}
use Rattle.std.proofs.Math.Nat.{div-le_self}
use Rattle.fast_float.specs.Text.{scan}
use Rattle.n2k_table.specs.declared.resolution.Resolution.{Resolution}
use Rattle.n2k_encode.specs.declared.numeral.Magnitude.{Magnitude}
use Rattle.n2k_encode.specs.Numeral.{digits_of, scaled, multiples}
use Rattle.n2k_encode.specs.Value.{units_of}
use Rattle.n2k_encode.specs.Steps.{◌>>=◌}
use Rattle.n2k_encode.proofs.Near.{scaled_small}

multiples_bounded : (nearest : Bool) (parity unit : ℕ) (s : Magnitude) (n : ℕ) → multiples nearest parity unit s ≡ Some n → n ≤ s.size + 1
unfolding multiples
multiples_bounded nearest parity unit s n e = grind (arith, e, div-le_self s.size unit)

bounded_by : (nearest : Bool) (parity unit k : ℕ) (text : List ℕ) (found : Option Magnitude) (n : ℕ) → scaled k (scan (digits_of text)) ≡ found
    → (found >>= multiples nearest parity unit) ≡ Some n → n ≤ 2 ^ 100
bounded_by nearest parity unit k text None n e f = absurd cc
bounded_by nearest parity unit k text (Some s) n e f = omega (arith, scaled_small k (scan (digits_of text)) s e, multiples_bounded nearest parity unit s n f)

pub units_bounded : (nearest : Bool) (parity : ℕ) (r : Resolution) (text : List ℕ) (n : ℕ) → units_of nearest parity r text ≡ Some n → n ≤ 2 ^ 100
unfolding units_of
units_bounded nearest parity r text n e = bounded_by nearest parity (10 * r.mantissa) (r.decimals + 1) text _ n refl e
