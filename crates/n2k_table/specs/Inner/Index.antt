-- Where the definitions of each PGN stand, as the code keeps it.
use Rattle.std.specs.Prelude.{◌≡◌, ℕ, suc, ◌==◌, nat_eq, Bool, false, List, [], ◌∷◌, ◌++◌, map, Option, Some, None}
use Rattle.std.specs.Prelude.{option_map}
use Rattle.std.specs.Prelude.{unwrap_or, All, IfSome, slice_get, Vec, if◌then◌else◌}
use Rattle.std.specs.List.{find}
use Rattle.std.specs.Map.{lookup as value_at}
use Rattle.std.specs.declared.alloc.Global.{Global}
use Rattle.n2k_table.specs.Definition.{DefinitionParts}
use Rattle.n2k_table.specs.Table.{is_of, are_mixed}
use Rattle.n2k_table.specs.declared.index.Candidate.{Candidate}
use Rattle.n2k_table.specs.Inner.MatchPrefilter.{IsMatchPrefilter}

-- the PGNs of definitions
abbrev pub pgns : List DefinitionParts → List ℕ
pgns ds = map (λ (d : DefinitionParts). d.pgn) ds

-- the place of a number among numbers, of which the first has the place i
abbrev pub places_from : ℕ → ℕ → List ℕ → List ℕ
places_from i number [] = []
places_from i number (n ∷ ns) = if n == number then i ∷ places_from (suc i) number ns else places_from (suc i) number ns

abbrev pub places : ℕ → List ℕ → List ℕ
places number pgns = places_from 0 number pgns

-- what the code's map has for a PGN
abbrev pub candidates_in : List (ℕ × Vec Candidate Global) → ℕ → List Candidate
candidates_in entries number = unwrap_or (option_map (λ v. v.items) (value_at (nat_eq number) entries)) []

-- the places of candidates
abbrev pub places_of : List Candidate → List ℕ
places_of cs = map (λ (c : Candidate). c.place) cs

-- a candidate asks at a glance for what the definition at its place asks for
abbrev pub IsOfPlace : List DefinitionParts → Candidate → Type 0
IsOfPlace ds c = IfSome (slice_get ds c.place) (λ d. IsMatchPrefilter c.match_prefilter d.fields)

-- these are the candidates of a PGN
pub record AreOfPgn (number : ℕ) (ds : List DefinitionParts) (cs : List Candidate) : Type 0 where
  pub places : places_of cs ≡ places number (pgns ds)
  pub asked : All (IsOfPlace ds) cs

-- one map has the candidates of the other, and one more of a PGN, after its earlier candidates
abbrev pub GainsCandidate :
    List (ℕ × Vec Candidate Global) → List (ℕ × Vec Candidate Global) → ℕ → Candidate → Type 0
GainsCandidate old new number candidate =
    (n : ℕ) → candidates_in new n ≡ candidates_in old n ++ (if nat_eq number n then candidate ∷ [] else [])

-- the map has a candidate for each definition of a PGN, in file order
pub record IsIndex (entries : List (ℕ × Vec Candidate Global)) (ds : List DefinitionParts) : Type 0 where
  pub finds : (number : ℕ) → places_of (candidates_in entries number) ≡ places number (pgns ds)
  pub asks : (number : ℕ) → All (IsOfPlace ds) (candidates_in entries number)

-- a definition has another kind than the first of its PGN, if there is one
abbrev pub differs_from : Option DefinitionParts → DefinitionParts → Bool
differs_from None d = false
differs_from (Some first) d = are_mixed first d

abbrev pub differs : List DefinitionParts → DefinitionParts → Bool
differs ds d = differs_from (find (is_of d.pgn) ds) d
