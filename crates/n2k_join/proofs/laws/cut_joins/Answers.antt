use Rattle.n2k_join.proofs.CutLaws.{cut_joins, window_repeats}
use Rattle.n2k_join.proofs.laws.cut_joins.Goals as goal

pub returns : goal.returns
returns c = record { joins = cut_joins; windows = window_repeats }
