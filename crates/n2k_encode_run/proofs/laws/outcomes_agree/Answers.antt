use Rattle.n2k_encode_run.proofs.More.{outcomes_same}
use Rattle.n2k_encode_run.proofs.laws.outcomes_agree.Goals as goal

pub returns : goal.returns
returns c = outcomes_same
