use Rattle.std.proofs.Common.{◌≡◌, ℕ, List, Option, slice_get, filter, option_and_then, sym, ap, ◌∙◌}
use Rattle.n2k_table.specs.Table.{KnownParts, is_of}
use Rattle.n2k_table.proofs.Places.{filter_places}
use Rattle.n2k_table.proofs.known_pgn.KnownPgn.definition.Goals as goal

pub returns-in_err-nth : goal.returns-in_err-nth
returns-in_err-nth c =
    let ds = c.self.inside.table.now.definitions in
    let at = ap (λ (is : List ℕ). option_and_then (slice_get ds) (slice_get is c.args.place)) c.self.invariant.1.places in
    let seen = ap (λ (k : KnownParts). slice_get (filter (is_of k.pgn) k.table.definitions) c.args.place) c.self.view_is in
    rw c.from_residual.ensures (c.in_err-nth.ensures ∙ at ∙ sym (filter_places c.self.inside.first.now.pgn ds c.args.place) ∙ seen)

pub returns : goal.returns
returns c =
    let ds = c.self.inside.table.now.definitions in
    let at = ap (λ (is : List ℕ). option_and_then (slice_get ds) (slice_get is c.args.place)) c.self.invariant.1.places in
    let seen = ap (λ (k : KnownParts). slice_get (filter (is_of k.pgn) k.table.definitions) c.args.place) c.self.view_is in
    rw c.new.ensures (c.in_ok-nth.ensures ∙ at ∙ sym (filter_places c.self.inside.first.now.pgn ds c.args.place) ∙ seen)
