use Rattle.std.proofs.Common.{subst}
use Rattle.n2k_join.specs.State.{IsState}
use Rattle.n2k_join.proofs.join.Join.lemma_valid.Goals as goal

pub returns-clause-state : goal.returns-clause-state
returns-clause-state c = subst IsState c.self.view_is c.self.invariant.0
