use Rattle.n2k_join.proofs.AnyLine.{from_any_line}
use Rattle.n2k_join.proofs.laws.from_any_line.Goals as goal

pub returns : goal.returns
returns c = from_any_line
