-- What is known of a PGN by the first of its candidates.
use Rattle.std.proofs.Common.{arith, ◌≡◌, ℕ, ◌<◌, ◌&&◌, Bool, true, ◌∙◌, List, [], ◌∷◌, length, get_or, slice_get, nat_eq, Some, None, option_map, sym, ap, inl, inr}
use Rattle.std.specs.List.{find}
use Rattle.std.proofs.lemmas.Bool.{cases_Bool, eqb-true}
use Rattle.n2k_table.specs.Definition.{DefinitionParts}
use Rattle.n2k_table.specs.Table.{TableParts, is_of, kind, matches, choice}
use Rattle.n2k_table.specs.declared.index.Candidate.{Candidate}
use Rattle.n2k_table.specs.Inner.Index.{pgns, places, places_of}
use Rattle.n2k_table.proofs.Places.{no_kind, one_kind, first_place, first_within, places_within}

pub kind_of_none : (t : TableParts) (pgn : ℕ) (cs : List Candidate) → places_of cs ≡ places pgn (pgns t.definitions) → slice_get cs 0 ≡ None → kind t pgn ≡ None
kind_of_none t pgn cs same none = ap (option_map (λ (d : DefinitionParts). d.kind)) (no_kind pgn t.definitions (places_of cs) same (first_place cs None none))

pub first_inside : (ds : List DefinitionParts) (pgn : ℕ) (cs : List Candidate) (c : Candidate) → places_of cs ≡ places pgn (pgns ds) → slice_get cs 0 ≡ Some c → c.place < length ds
first_inside ds pgn cs c same first = first_within (places_of cs) c.place (length ds) (first_place cs (Some c) first) (places_within (places_of cs) pgn ds same)

pub first_found : (t : TableParts) (pgn : ℕ) (cs : List Candidate) (c : Candidate) (d : DefinitionParts) → places_of cs ≡ places pgn (pgns t.definitions) → slice_get cs 0 ≡ Some c
    → d ≡ get_or t.definitions c.place d → find (is_of pgn) t.definitions ≡ Some d
first_found t pgn cs c d same first at = grind (arith, one_kind, first_place, first_inside)

-- a PGN's first definition is chosen if it passes
first_passes : (q : DefinitionParts → Bool) (pgn : ℕ) (ds : List DefinitionParts) (d : DefinitionParts) → find (is_of pgn) ds ≡ Some d → q d ≡ true → find (λ e. is_of pgn e && q e) ds ≡ Some d
first_passes q pgn [] d first passes = absurd cc
first_passes q pgn (e ∷ ds) d first passes =
    elim (cases_Bool (nat_eq e.pgn pgn)) [
      | inl same ↦
          let here : Some e ≡ Some d = rw same at first in
          let is : e ≡ d = cc in
          let yes : q e ≡ true = ap q is ∙ passes in
          rw (same, yes) here
      | inr other ↦
          let rest : find (is_of pgn) ds ≡ Some d = rw other at first in
          rw other (first_passes q pgn ds d rest passes)
    ]

pub first_chosen : (t : TableParts) (pgn : ℕ) (payload : List ℕ) (d : DefinitionParts) → find (is_of pgn) t.definitions ≡ Some d → matches payload d ≡ true → choice t pgn payload ≡ Some d
first_chosen t pgn payload d first passes = first_passes (matches payload) pgn t.definitions d first passes

-- the definition that is found is one of the PGN
pub found_pgn : (pgn : ℕ) (ds : List DefinitionParts) (d : DefinitionParts) → find (is_of pgn) ds ≡ Some d → d.pgn ≡ pgn
found_pgn pgn [] d found = absurd cc
found_pgn pgn (e ∷ ds) d found =
    elim (cases_Bool (nat_eq e.pgn pgn)) [
      | inl same ↦
          let here : Some e ≡ Some d = rw same at found in
          let is : e ≡ d = cc in
          let number : e.pgn ≡ pgn = eqb-true e.pgn pgn same in
          ap (λ (f : DefinitionParts). f.pgn) (sym is) ∙ number
      | inr other ↦
          let rest : find (is_of pgn) ds ≡ Some d = rw other at found in
          found_pgn pgn ds d rest
    ]
