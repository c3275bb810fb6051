use Rattle.n2k_join.proofs.Splitting.{splits_written}
use Rattle.n2k_join.proofs.laws.splits_written.Goals as goal

pub returns : goal.returns
returns c = splits_written
