-- What the getters of `clap`'s matches answer, by the rows of what a parse found.
use Rattle.clap.proofs.WalkLemmas.{first_value-rows}

pub ruleset value_of_rows = (first_value-rows)
