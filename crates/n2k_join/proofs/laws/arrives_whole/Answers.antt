use Rattle.n2k_join.proofs.Arriving.{arrive}
use Rattle.n2k_join.proofs.Replaying.{replays}
use Rattle.n2k_join.proofs.laws.arrives_whole.Goals as goal

pub returns : goal.returns
returns c = record { whole = λ w kind ms es is. arrive w kind ms es; given_back = λ w kind ms es is. replays w kind ms es }
