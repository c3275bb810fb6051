use Rattle.std.proofs.Common.{arith}
use Rattle.n2k_join.proofs.SavedGroups.{total_from}
use Rattle.n2k_join.proofs.saved.rules.piece_of_parts.Goals as goal

pub returns-clause-parts : goal.returns-clause-parts
returns-clause-parts c = grind (arith, total_from)
