use Rattle.std.proofs.Common.{ap, ◌∙◌}
use Rattle.n2k_table.specs.Inner.Index.{places_of}
use Rattle.n2k_table.proofs.Places.{candidates_within}
use Rattle.n2k_table.proofs.table.Table.candidates.Goals as goal

pub returns-clause-within : goal.returns-clause-within
returns-clause-within c =
    rw (← c.self.view_is) (candidates_within c.candidates_at.result.now c.args.pgn c.self.inside.definitions.items (ap places_of c.candidates_at.ensures ∙ c.self.invariant.finds c.args.pgn))
