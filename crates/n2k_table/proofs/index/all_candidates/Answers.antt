use Rattle.std.proofs.Common.{ℕ, refl}
use Rattle.n2k_table.specs.Inner.Index.{IsOfPlace}
use Rattle.n2k_table.specs.Inner.MatchPrefilter.{IsMatchPrefilter}
use Rattle.n2k_table.proofs.Places.{noted, noted_all, of_place}
use Rattle.n2k_table.proofs.index.all_candidates.Goals as goal

pub loop-place-preserved : goal.loop-place-preserved
loop-place-preserved c =
    let ds = c.args.definitions.now in
    let k = c.loop-place.place in
    let d = c.index-definitions-place.result in
    let match_prefilter = c.match_prefilter_of-match_prefilter.result in
    let asks : IsMatchPrefilter match_prefilter d.fields = rw (← c.fields.ensures) c.match_prefilter_of-match_prefilter.ensures in
    let gain = λ (n : ℕ). rw c.pgn.ensures at (c.in_ok-note.ensures n) in
    let finds = λ (n : ℕ). noted ds k n d _ _ _ _ c.loop-place-test.true c.index-definitions-place.is refl (gain n) (c.loop-place.invariant.0 n) in
    let asked = λ (n : ℕ). noted_all (IsOfPlace ds) _ _ _ _ (of_place ds k d match_prefilter c.loop-place-test.true c.index-definitions-place.is asks) (gain n) (c.loop-place.invariant.1 n) in
    (finds, asked)
