-- Places after strings, as far as the table says them.
use Rattle.std.proofs.Common.{◌≡◌, ℕ, ◌+◌, ◌≤◌, List, [], ◌∷◌, ◌++◌, refl, arith}
use Rattle.n2k_table.specs.declared.string_place.Step.{Step}
use Rattle.n2k_table.specs.Field.{fixed_place}

-- a place that begins later ends as much later
pub later_place : (ss : List Step) (a b : ℕ) → fixed_place ss (a + b) ≡ a + fixed_place ss b
later_place [] a b = refl
later_place (s ∷ ss) a b = grind (arith, later_place ss a)

-- so it ends as much later than one from the beginning
pub from_beginning : (ss : List Step) (at : ℕ) → fixed_place ss at ≡ at + fixed_place ss 0
from_beginning ss at = grind (arith, later_place ss at 0)

-- no place is before the one that it begins with
pub not_before : (ss : List Step) (at : ℕ) → at ≤ fixed_place ss at
not_before [] at = omega arith
not_before (s ∷ ss) at = omega (arith, not_before ss (s.at + at))

-- one more string after the others
pub one_more : (ss : List Step) (s : Step) (at : ℕ) → fixed_place (ss ++ s ∷ []) at ≡ s.at + fixed_place ss at
one_more [] s at = refl
one_more (t ∷ ss) s at = one_more ss s (t.at + at)

-- what follows a string begins no later than where the string ends
pub after_string : (steps ss : List Step) (s : Step) → steps ≡ ss ++ s ∷ [] → fixed_place steps 0 ≤ fixed_place ss s.at
after_string steps ss s is = grind (arith, one_more, from_beginning)
