use Rattle.std.proofs.Common.{sym, ap, ◌∙◌}
use Rattle.n2k_table.specs.Inner.Index.{places_of}
use Rattle.n2k_table.proofs.Places.{no_kind, got, first_is, first_place}
use Rattle.n2k_table.proofs.index.first_of.Goals as goal

pub returns-in_err-first : goal.returns-in_err-first
returns-in_err-first c =
    let cs = c.candidates_at.result.now in
    rw c.from_residual.ensures (sym (no_kind c.args.pgn c.args.definitions.now (places_of cs) (ap places_of c.candidates_at.ensures ∙ c.requires.finds c.args.pgn) (first_place cs _ (sym c.in_err-first.ensures.value))))

pub returns : goal.returns
returns c =
    let ds = c.args.definitions.now in
    let cs = c.candidates_at.result.now in
    let i = c.in_ok-first.field-0.now.place in
    got (λ d. d.now) c.get.result ds i c.get.ensures.lookup.0 c.get.ensures.lookup.1
    ∙ first_is c.args.pgn ds (places_of cs) i (ap places_of c.candidates_at.ensures ∙ c.requires.finds c.args.pgn) (first_place cs _ (sym c.in_ok-first.ensures.value))
