use Rattle.n2k_join.proofs.Healing.{heals}
use Rattle.n2k_join.proofs.laws.heals.Goals as goal

pub returns : goal.returns
returns c = λ w kind prefix back x group after is comes zero. heals w kind prefix back x group after comes zero
