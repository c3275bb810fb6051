use Rattle.n2k_join.proofs.Agreeing.{steps_agree}
use Rattle.n2k_join.proofs.laws.steps_agree.Goals as goal

pub returns : goal.returns
returns c = steps_agree
