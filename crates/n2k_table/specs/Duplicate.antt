-- Things of a list that have to differ.
use Rattle.std.specs.Prelude.{Bool, false, ◌||◌, List, [], ◌∷◌}
use Rattle.std.specs.List.{list_any}

-- two of a list are the same
abbrev pub has_duplicate : {X : Type 0} → (X → X → Bool) → List X → Bool
has_duplicate same [] = false
has_duplicate same (x ∷ xs) = list_any (same x) xs || has_duplicate same xs
