use Rattle.n2k_join.proofs.ReadStates.{rules-one, read-state}
use Rattle.n2k_join.proofs.laws.rules_are_one.Goals as goal

pub returns : goal.returns
returns c = record { one = rules-one; read = read-state }
