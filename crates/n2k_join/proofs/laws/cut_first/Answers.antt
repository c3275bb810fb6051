use Rattle.n2k_join.proofs.CutLaws.{cut_first}
use Rattle.n2k_join.proofs.laws.cut_first.Goals as goal

pub returns : goal.returns
returns c = cut_first
