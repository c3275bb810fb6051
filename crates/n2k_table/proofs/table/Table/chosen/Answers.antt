use Rattle.std.proofs.Common.{◌≡◌, ℕ, List, Bool, false, ◌&&◌, cond, Some, get_or, drop, length, ◌+◌, refl, sym, ap, ◌∙◌, arith}
use Rattle.std.proofs.lemmas.List.{at_drop_all, length-map}
use Rattle.n2k_table.specs.Definition.{DefinitionParts}
use Rattle.n2k_table.specs.Table.{TableParts, is_of, matches, choice}
use Rattle.n2k_table.specs.declared.index.Candidate.{Candidate}
use Rattle.n2k_table.specs.Inner.Index.{pgns, places, places_of}
use Rattle.n2k_table.proofs.MatchPrefilters.{asked_there}
use Rattle.n2k_table.proofs.Places.{first_at, candidate_here, find_places}
use Rattle.n2k_table.proofs.table.Table.chosen.Goals as goal

pub loop-candidate-init : goal.loop-candidate-init
loop-candidate-init c = refl

-- the first at the places of a PGN is the one that is chosen
is_chosen : (t : TableParts) (pgn : ℕ) (payload : List ℕ) (cs : List Candidate) → places_of cs ≡ places pgn (pgns t.definitions)
    → first_at (matches payload) t.definitions (places_of cs) ≡ choice t pgn payload
is_chosen t pgn payload cs same =
    let q = matches payload in
    ap (first_at q t.definitions) same ∙ sym (find_places (λ (d : DefinitionParts). is_of pgn d && q d) q pgn (λ d. refl) t.definitions)

pub returns-then-matches : goal.returns-then-matches
returns-then-matches c = λ pgn same.
    let payload = c.args.«data».now in
    let q = matches payload in
    let ds = c.args.self.now.definitions in
    let cs = c.args.candidates.now in
    let k = c.loop-candidate.candidate-index in
    let e : Candidate = record { place = 0; match_prefilter = record { mask = 0; wanted = 0; settles = false } } in
    let x = get_or cs k e in
    let d = c.index-definition.result.now in
    let at : d ≡ get_or ds x.place d = c.index-definition.ensures ∙ ap (λ (t : TableParts). get_or t.definitions x.place d) c.self.view_is in
    sym (candidate_here q ds cs k x e d c.loop-candidate-test.true refl (c.requires.within k _ c.loop-candidate-test.true) at
    ∙ ap (λ (b : Bool). cond b (Some d) (first_at q ds (drop (k + 1) (places_of cs)))) (sym c.if-matches.ensures)) ∙ c.loop-candidate.invariant ∙ is_chosen c.args.self.now pgn payload cs same

pub returns : goal.returns
returns c = λ pgn same.
    let payload = c.args.«data».now in
    let q = matches payload in
    let ds = c.args.self.now.definitions in
    let is = places_of c.args.candidates.now in
    let many : length is ≡ length c.args.candidates.now = length-map c.args.candidates.now (λ (x : Candidate). x.place) in
    sym (at_drop_all (first_at q ds) is c.loop-candidate.candidate-index (omega (arith, many, c.loop-candidate-test.false)))
    ∙ c.loop-candidate.invariant ∙ is_chosen c.args.self.now pgn payload c.args.candidates.now same

pub loop-candidate-preserved : goal.loop-candidate-preserved
loop-candidate-preserved c =
    let q = matches c.args.«data».now in
    let ds = c.args.self.now.definitions in
    let cs = c.args.candidates.now in
    let k = c.loop-candidate.candidate-index in
    let e : Candidate = record { place = 0; match_prefilter = record { mask = 0; wanted = 0; settles = false } } in
    let x = get_or cs k e in
    let d = c.index-definition.result.now in
    let at : d ≡ get_or ds x.place d = c.index-definition.ensures ∙ ap (λ (t : TableParts). get_or t.definitions x.place d) c.self.view_is in
    sym (candidate_here q ds cs k x e d c.loop-candidate-test.true refl (c.requires.within k _ c.loop-candidate-test.true) at
    ∙ ap (λ (b : Bool). cond b (Some d) (first_at q ds (drop (k + 1) (places_of cs)))) (sym c.if-matches.ensures)) ∙ c.loop-candidate.invariant

pub matches-requires : goal.matches-requires
matches-requires c =
    let ds = c.args.self.now.definitions in
    let cs = c.args.candidates.now in
    let k = c.loop-candidate.candidate-index in
    let e : Candidate = record { place = 0; match_prefilter = record { mask = 0; wanted = 0; settles = false } } in
    let x = get_or cs k e in
    let d = c.index-definition.result.now in
    let at : d ≡ get_or ds x.place d = c.index-definition.ensures ∙ ap (λ (t : TableParts). get_or t.definitions x.place d) c.self.view_is in
    asked_there ds x d (c.requires.asked k e c.loop-candidate-test.true) (c.requires.within k _ c.loop-candidate-test.true) at
