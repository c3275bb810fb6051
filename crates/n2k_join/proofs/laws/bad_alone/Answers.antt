use Rattle.n2k_join.proofs.BadLines.{bad_alone}
use Rattle.n2k_join.proofs.laws.bad_alone.Goals as goal

pub returns : goal.returns
returns c = bad_alone
