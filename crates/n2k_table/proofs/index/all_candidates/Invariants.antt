-- The candidates so far, and the places among the definitions that are left, are the places of each number.
use Rattle.std.proofs.Common.{◌≡◌, ◌++◌, ℕ, drop, All}
use Rattle.n2k_table.specs.Inner.Index.{IsOfPlace, pgns, places, places_from, places_of, candidates_in}
use Rattle.n2k_table.proofs.index.all_candidates.Given as goal

abbrev pub invariant-loop-place : goal.invariant-loop-place
invariant-loop-place l =
    ((n : ℕ) → places_of (candidates_in l.candidates.entries n) ++ places_from l.place n (pgns (drop l.place l.definitions)) ≡ places n (pgns l.definitions))
    × ((n : ℕ) → All (IsOfPlace l.definitions) (candidates_in l.candidates.entries n))
