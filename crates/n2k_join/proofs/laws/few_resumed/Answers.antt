use Rattle.n2k_join.proofs.ReadStates.{few_resumed, few_after}
use Rattle.n2k_join.proofs.laws.few_resumed.Goals as goal

pub returns : goal.returns
returns c = record { read = few_resumed; after_a_line = few_after }
