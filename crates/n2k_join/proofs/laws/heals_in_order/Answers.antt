use Rattle.n2k_join.proofs.Healing.{heals_in_order}
use Rattle.n2k_join.proofs.laws.heals_in_order.Goals as goal

pub returns : goal.returns
returns c = λ w kind prefix back x group after order comes. heals_in_order w kind prefix back x group after order comes
