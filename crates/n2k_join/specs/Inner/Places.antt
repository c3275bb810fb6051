-- Places in a list: which place is after each and before it.
use Rattle.std.specs.Prelude.{◌≡◌, ℕ, ◌+◌, ◌-◌, ◌^◌, ◌<◌, ◌==◌, if◌then◌else◌, List, [], ◌∷◌}

-- no place: it is after the last and before the first
abbrev pub nowhere : ℕ
nowhere = 2 ^ 64 - 1

-- the places between two, in order
abbrev pub Path : (ℕ → ℕ) → ℕ → List ℕ → ℕ → Type 0
Path after from [] to = after from ≡ to
Path after from (p ∷ ps) to = (after from ≡ p) × Path after p ps to

-- how often a place is among places
abbrev pub times : ℕ → List ℕ → ℕ
times at [] = 0
times at (p ∷ ps) = (if p == at then 1 else 0) + times at ps

-- The places below a count, except one, are a list: each is in it once, in this order, and a place is before the place
-- after it.
pub record AreLinked (count but : ℕ) (after before : ℕ → ℕ) (order : List ℕ) : Type 0 where
  pub path : Path after nowhere order nowhere
  pub back : (at : ℕ) → (at ≡ but → ⊥) → (before (after at) ≡ at) × (after at ≡ but → ⊥)
  pub forth : (at : ℕ) → (at ≡ but → ⊥) → (after (before at) ≡ at) × (before at ≡ but → ⊥)
  pub within : (at : ℕ) → 0 < times at order → (at < count) × (at ≡ but → ⊥)
  pub once : (at : ℕ) → at < count → (at ≡ but → ⊥) → times at order ≡ 1

-- `at` gets the place `to` beside it
abbrev pub put : ℕ → ℕ → (ℕ → ℕ) → ℕ → ℕ
put at to side j = if j == at then to else side j
