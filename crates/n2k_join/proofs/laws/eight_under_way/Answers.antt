use Rattle.n2k_join.proofs.UnderWay.{eight_under_way, one_stream}
use Rattle.n2k_join.proofs.laws.eight_under_way.Goals as goal

pub returns : goal.returns
returns c = record { apart = eight_under_way; streams = one_stream }
