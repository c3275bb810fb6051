use Rattle.n2kdec.proofs.save.Making.{closing}
use Rattle.n2kdec.proofs.save.replacement.pour_and_close.Goals as goal

pub returns : goal.returns
returns g c = closing c.pour-poured.ensures c.close.ensures
