use Rattle.std.proofs.Common.{arith, eq-eqb}
use Rattle.n2k_join.proofs.StateReads.{resumed-by, of-parts}
use Rattle.n2k_join.proofs.join.Join.resume_any.Goals as goal

pub returns : goal.returns
returns c = grind (arith, of-parts, resumed-by, eq-eqb)
