use Rattle.n2k_join.proofs.Expiring.{is_due, expires_first}
use Rattle.n2k_join.proofs.laws.expires_first.Goals as goal

pub returns : goal.returns
returns c = λ kind s e group is due. expires_first s group (is_due s group is.groups.rise due) kind e
