use Rattle.n2k_join.proofs.Keeping.{few-open}
use Rattle.n2k_join.proofs.laws.few_open.Goals as goal

pub returns : goal.returns
returns c = few-open
