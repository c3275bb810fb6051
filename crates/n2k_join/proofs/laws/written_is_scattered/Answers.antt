use Rattle.n2k_join.proofs.Written.{written_log}
use Rattle.n2k_join.proofs.laws.written_is_scattered.Goals as goal

pub returns : goal.returns
returns c = λ w kind ms is. written_log w is.least kind ms
