use Rattle.n2k_table.proofs.Places.{candidates_within}
use Rattle.n2k_table.proofs.known_pgn.KnownPgn.chosen.Goals as goal

pub chosen-requires-clause-within : goal.chosen-requires-clause-within
chosen-requires-clause-within c =
    candidates_within c.self.inside.candidates.now c.self.inside.first.now.pgn c.self.inside.table.now.definitions c.self.invariant.1.places
