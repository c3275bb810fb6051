-- Sizes that are far apart, and counts of items.
use Rattle.std.proofs.Common.{◌≡◌, ℕ, suc, ◌<◌, ◌≤◌, ◌^◌, false, nat_eq, List, [], ◌∷◌, length, Some, refl, ap, arith}
use Rattle.json.specs.declared.value.Value.{Value}
use Rattle.json.specs.Value.{items_view}
use Rattle.fast_float.specs.Text.{Parts}
use Rattle.n2k_encode.specs.declared.numeral.Magnitude.{Magnitude}
use Rattle.n2k_encode.specs.Draft.{is_none_given}
use Rattle.n2k_encode.specs.Numeral.{scaled}
use Rattle.n2k_encode.specs.Says.{is_near, count_items}

-- what is scaled is below the limit
pub scaled_small : (k : ℕ) (p : Parts) (m : Magnitude) → scaled k p ≡ Some m → m.size < 2 ^ 100
unfolding scaled
scaled_small k p m e = grind (arith, e)

-- a shown number of more than 128 bits is near to none of these
pub far : (slack shown : ℕ) (m : Magnitude) → m.size < 2 ^ 100 → 2 ^ 128 ≤ shown → slack < 2 ^ 64 → is_near slack shown m ≡ false
far slack shown m small large few = grind (arith, small, large, few)

pub none_given : {A : Type 0} → (vs : List (Value A)) → is_none_given (items_view vs) ≡ nat_eq (length vs) 0
none_given [] = refl
none_given (v ∷ vs) = grind arith

pub count-items_view : {A : Type 0} → (vs : List (Value A)) → count_items (items_view vs) ≡ length vs
count-items_view [] = refl
count-items_view (v ∷ vs) = ap suc (count-items_view vs)
