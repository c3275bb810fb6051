-- The first that describes the message among the definitions at the places that are left is the first among all.
use Rattle.std.proofs.Common.{◌≡◌, drop}
use Rattle.n2k_table.specs.Table.{matches}
use Rattle.n2k_table.specs.Inner.Index.{places_of}
use Rattle.n2k_table.proofs.Places.{first_at}
use Rattle.n2k_table.proofs.table.Table.chosen.Given as goal

abbrev pub invariant-loop-candidate : goal.invariant-loop-candidate
invariant-loop-candidate l =
    first_at (matches l.«data») l.self.definitions (drop l.candidate-index (places_of l.candidates))
    ≡ first_at (matches l.«data») l.self.definitions (places_of l.candidates)
