use Rattle.n2k_join.proofs.ReadStates.{log_back}
use Rattle.n2k_join.proofs.laws.saved_log_reads_back.Goals as goal

pub returns : goal.returns
returns c = log_back
