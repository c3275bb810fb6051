use Rattle.n2k_join.proofs.InOrder.{groups_consecutive, comes_of_consecutive}
use Rattle.n2k_join.proofs.laws.consecutive_frames.Goals as goal

pub returns : goal.returns
returns c = record { groups = λ w kind es key order. groups_consecutive w order kind es key; messages = λ w kind es line m order given. comes_of_consecutive w order kind es line m given }
