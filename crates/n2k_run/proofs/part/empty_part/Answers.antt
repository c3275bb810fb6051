use Rattle.std.proofs.Common.{arith}
use Rattle.n2k_run.proofs.Joined.{empty-of}
use Rattle.n2k_run.proofs.part.empty_part.Goals as goal

pub returns : goal.returns
returns c = grind (arith, empty-of)
