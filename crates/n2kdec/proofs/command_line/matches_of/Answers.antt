-- The command is that of the definition, and so its matches and its faults are.
use Rattle.n2kdec.proofs.run.AskedLemmas.{kinds_as_defined, matches_as_defined, taken_as_defined}
use Rattle.n2kdec.proofs.command_line.matches_of.Goals as goal

pub returns-clause-matches : goal.returns-clause-matches
returns-clause-matches c =
    matches_as_defined _ _ c.try_get_matches_from.result c.in_ok-program.ensures c.try_get_matches_from.ensures.matches c.try_get_matches_from.ensures.kinds

pub returns-clause-kinds : goal.returns-clause-kinds
returns-clause-kinds c = kinds_as_defined _ _ c.try_get_matches_from.result c.in_ok-program.ensures c.try_get_matches_from.ensures.kinds

pub returns-clause-taken : goal.returns-clause-taken
returns-clause-taken c = taken_as_defined _ _ c.try_get_matches_from.result c.in_ok-program.ensures c.try_get_matches_from.ensures.passes
