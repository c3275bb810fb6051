-- Where the definitions of a PGN stand.
use Rattle.std.proofs.Common.{◌≡◌, ℕ, zero, suc, ◌+◌, ◌<◌, ltb, Bool, true, false, ◌&&◌, nat_eq, cond, List, [], ◌∷◌, ◌++◌, length, get_or, drop, slice_get, Option, Some, None, is_some, option_and_then, option_map, filter, IfSome, refl, ap, ◌∙◌, append_assoc, inl, inr, arith, All, if◌then◌else◌}
use Rattle.std.specs.List.{find}
use Rattle.std.specs.Option.{option_map_or}
use Rattle.std.proofs.lemmas.Option.{slice_get-get_or, slice_get_past, slice_get_cases}
use Rattle.std.proofs.lemmas.Bool.{cases_Bool}
use Rattle.std.proofs.lemmas.List.{drop_more, length-append, append-nil, map-append, length-map, get_or-map}
use Rattle.std.proofs.lemmas.List.Elements.{All-append}
use Rattle.n2k_table.specs.Definition.{DefinitionParts}
use Rattle.n2k_table.specs.Table.{is_of}
use Rattle.n2k_table.specs.declared.match_prefilter.MatchPrefilter.{MatchPrefilter}
use Rattle.n2k_table.specs.declared.index.Candidate.{Candidate}
use Rattle.n2k_table.specs.Inner.MatchPrefilter.{IsMatchPrefilter}
use Rattle.n2k_table.specs.Inner.Index.{pgns, places_from, places, places_of, IsOfPlace}

pub length-pgns : (ds : List DefinitionParts) → length (pgns ds) ≡ length ds
length-pgns [] = refl
length-pgns (d ∷ ds) = ap suc (length-pgns ds)

-- the first that passes among the definitions at these places
abbrev pub first_at : (DefinitionParts → Bool) → List DefinitionParts → List ℕ → Option DefinitionParts
first_at q ds [] = None
first_at q ds (i ∷ is) = option_map_or (λ d. cond (q d) (Some d) (first_at q ds is)) (slice_get ds i) (first_at q ds is)

there : (prefix : List DefinitionParts) (d : DefinitionParts) (ds : List DefinitionParts) → slice_get (prefix ++ d ∷ ds) (length prefix) ≡ Some d
there [] d ds = refl
there (e ∷ es) d ds = there es d ds

-- the first of a PGN that passes is found at the places of the PGN
find_from : (p q : DefinitionParts → Bool) (pgn : ℕ) → ((d : DefinitionParts) → p d ≡ (is_of pgn d && q d)) → (prefix ds : List DefinitionParts)
    → find p ds ≡ first_at q (prefix ++ ds) (places_from (length prefix) pgn (pgns ds))
find_from p q pgn h prefix [] = refl
find_from p q pgn h prefix (d ∷ ds) = grind (arith, find_from p q pgn h (prefix ++ d ∷ []) ds, length-append, append_assoc, there)

pub find_places : (p q : DefinitionParts → Bool) (pgn : ℕ) → ((d : DefinitionParts) → p d ≡ (is_of pgn d && q d)) → (ds : List DefinitionParts)
    → find p ds ≡ first_at q ds (places pgn (pgns ds))
find_places p q pgn h ds = find_from p q pgn h [] ds

one_within : (i n : ℕ) (is : List ℕ) → ((j : ℕ) → j < length is → get_or is j 0 < suc i + n) → (k : ℕ) → k < length (i ∷ is) → get_or (i ∷ is) k 0 < i + suc n
one_within i n is rest zero lt = omega arith
one_within i n is rest (suc j) lt = omega (arith, rest j (omega arith))

-- each place is one of a definition
pub place_within : (number : ℕ) (ns : List ℕ) (i k : ℕ) → k < length (places_from i number ns) → get_or (places_from i number ns) k 0 < i + length ns
place_within number [] i k lt = absurd (omega arith)
place_within number (n ∷ ns) i k lt =
    elim (cases_Bool (nat_eq n number)) [
      | inl same ↦
          let here : k < length (i ∷ places_from (suc i) number ns) = rw same at lt in
          rw same (one_within i (length ns) (places_from (suc i) number ns) (λ j below. place_within number ns (suc i) j below) k here)
      | inr other ↦
          let here : k < length (places_from (suc i) number ns) = rw other at lt in
          rw other (omega (arith, place_within number ns (suc i) k here))
    ]

-- the definition at a place
pub first_here : (q : DefinitionParts → Bool) (ds : List DefinitionParts) (is : List ℕ) (k : ℕ) (d : DefinitionParts) → k < length is → get_or is k 0 < length ds → d ≡ get_or ds (get_or is k 0) d
    → first_at q ds (drop k is) ≡ cond (q d) (Some d) (first_at q ds (drop (k + 1) is))
first_here q ds is k d lt within at = grind (arith, drop_more, slice_get-get_or)

pub places_within : (is : List ℕ) (pgn : ℕ) (ds : List DefinitionParts) → is ≡ places pgn (pgns ds) → (k : ℕ) → k < length is → get_or is k 0 < length ds
places_within is pgn ds same k lt = grind (arith, place_within, length-pgns)

both_true : (b : Bool) → b ≡ (b && true)
both_true b = grind arith

-- the first definition of a PGN
first_any : (ds : List DefinitionParts) (is : List ℕ) (r : Option ℕ) → slice_get is 0 ≡ r
    → first_at (λ d. true) ds is ≡ option_map_or (λ i. option_map_or (λ d. Some d) (slice_get ds i) (first_at (λ d. true) ds (drop 1 is))) r None
first_any ds [] r at = rw (← at) refl
first_any ds (i ∷ is) r at = rw (← at) refl

pub no_kind : (pgn : ℕ) (ds : List DefinitionParts) (is : List ℕ) → is ≡ places pgn (pgns ds) → slice_get is 0 ≡ None → find (is_of pgn) ds ≡ None
no_kind pgn ds is same none = grind (arith, find_places (is_of pgn) (λ d. true) pgn (λ d. both_true (is_of pgn d)) ds, first_any ds is None none)

pub one_kind : (pgn : ℕ) (ds : List DefinitionParts) (is : List ℕ) (i : ℕ) (d : DefinitionParts) → is ≡ places pgn (pgns ds) → slice_get is 0 ≡ Some i
    → i < length ds → d ≡ get_or ds i d → find (is_of pgn) ds ≡ Some d
one_kind pgn ds is i d same first within at = grind (arith, slice_get-get_or ds i d within, find_places (is_of pgn) (λ d. true) pgn (λ d. both_true (is_of pgn d)) ds, first_any ds is (Some i) first)

pub first_within : (is : List ℕ) (i n : ℕ) → slice_get is 0 ≡ Some i → ((k : ℕ) → k < length is → get_or is k 0 < n) → i < n
first_within [] i n first within = absurd cc
first_within (j ∷ is) i n first within =
    let same : j ≡ i = cc in
    let here : j < n = within 0 (omega arith) in
    omega arith

-- what a slice's `get` finds
pub got : {R : Type 0} (view : R → DefinitionParts) (r : Option R) (ds : List DefinitionParts) (i : ℕ) → is_some r ≡ ltb i (length ds)
    → IfSome r (λ x. view x ≡ get_or ds i (view x)) → option_map view r ≡ slice_get ds i
got view r ds i there at = grind (arith, slice_get_past, slice_get-get_or)

-- the first definition of a PGN is at the first of its places
pub first_is : (pgn : ℕ) (ds : List DefinitionParts) (is : List ℕ) (i : ℕ) → is ≡ places pgn (pgns ds) → slice_get is 0 ≡ Some i → slice_get ds i ≡ find (is_of pgn) ds
first_is pgn ds is i same first = grind (arith, first_within is i (length ds) first (places_within is pgn ds same), slice_get_cases ds i, one_kind)

-- one candidate more of the PGN of a definition
pub noted : (ds : List DefinitionParts) (k n : ℕ) (d : DefinitionParts) (cs new : List Candidate) (c : Candidate) (all : List ℕ) → k < length ds → d ≡ get_or ds k d → c.place ≡ k
    → new ≡ cs ++ (if nat_eq d.pgn n then c ∷ [] else []) → places_of cs ++ places_from k n (pgns (drop k ds)) ≡ all → places_of new ++ places_from (k + 1) n (pgns (drop (k + 1) ds)) ≡ all
noted ds k n d cs new c all lt at is gain before = grind (arith, drop_more, map-append, append_assoc)

all_of_one : (P : Candidate → Type 0) (c : Candidate) → P c → All P (c ∷ [])
all_of_one P c holds zero d lt = holds
all_of_one P c holds (suc k) d lt = absurd (omega arith)

-- what holds of each candidate holds with one more of which it holds
pub noted_all : (P : Candidate → Type 0) (gains : Bool) (cs new : List Candidate) (c : Candidate) → P c → new ≡ cs ++ (if gains then c ∷ [] else []) → All P cs → All P new
noted_all P true cs new c holds gain all = rw gain (All-append P cs (c ∷ []) all (all_of_one P c holds))
noted_all P false cs new c holds gain all = rw (gain ∙ append-nil cs) all

-- what a definition asks for, as the candidate of its place has it
pub of_place : (ds : List DefinitionParts) (k : ℕ) (d : DefinitionParts) (match_prefilter : MatchPrefilter) → k < length ds → d ≡ get_or ds k d → IsMatchPrefilter match_prefilter d.fields → IsOfPlace ds (record { place = k; match_prefilter = match_prefilter })
of_place ds k d match_prefilter lt at is = grind (arith, slice_get-get_or)

-- the places of candidates are places of definitions
pub candidates_within : (cs : List Candidate) (pgn : ℕ) (ds : List DefinitionParts) → places_of cs ≡ places pgn (pgns ds) → All (λ (c : Candidate). c.place < length ds) cs
candidates_within cs pgn ds same k d lt = grind (arith, places_within (places_of cs) pgn ds same k (omega (arith, lt, (length-map cs (λ (c : Candidate). c.place)))), get_or-map (λ (c : Candidate). c.place) cs k d 0 lt)

-- the first of some candidates, by its place
pub first_place : (cs : List Candidate) (r : Option Candidate) → slice_get cs 0 ≡ r → slice_get (places_of cs) 0 ≡ option_map (λ (c : Candidate). c.place) r
first_place [] r at = rw (← at) refl
first_place (c ∷ cs) r at = rw (← at) refl

-- the definition of a candidate
pub candidate_here : (q : DefinitionParts → Bool) (ds : List DefinitionParts) (cs : List Candidate) (k : ℕ) (c e : Candidate) (d : DefinitionParts) → k < length cs → c ≡ get_or cs k e
    → c.place < length ds → d ≡ get_or ds c.place d → first_at q ds (drop k (places_of cs)) ≡ cond (q d) (Some d) (first_at q ds (drop (k + 1) (places_of cs)))
candidate_here q ds cs k c e d lt is within at = grind (arith, length-map, get_or-map, first_here)

-- a definition of a PGN at its place among those of the PGN
filter_from : (pgn : ℕ) (prefix ds : List DefinitionParts) (k : ℕ)
    → slice_get (filter (is_of pgn) ds) k ≡ option_and_then (slice_get (prefix ++ ds)) (slice_get (places_from (length prefix) pgn (pgns ds)) k)
filter_from pgn prefix [] k = refl
filter_from pgn prefix (d ∷ ds) zero = grind (arith, filter_from pgn (prefix ++ d ∷ []) ds zero, length-append, append_assoc, there)
filter_from pgn prefix (d ∷ ds) (suc k) = grind (arith, filter_from pgn (prefix ++ d ∷ []) ds k, filter_from pgn (prefix ++ d ∷ []) ds (suc k), length-append, append_assoc, there)

pub filter_places : (pgn : ℕ) (ds : List DefinitionParts) (k : ℕ) → slice_get (filter (is_of pgn) ds) k ≡ option_and_then (slice_get ds) (slice_get (places pgn (pgns ds)) k)
filter_places pgn ds k = filter_from pgn [] ds k
