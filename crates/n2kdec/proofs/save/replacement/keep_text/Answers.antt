use Rattle.n2kdec.proofs.save.Making.{kept_regular, kept_special}
use Rattle.n2kdec.proofs.save.replacement.keep_text.Goals as goal

pub returns-in-Alone : goal.returns-in-Alone
returns-in-Alone g c = kept_regular _ _ _ _ _ _ c.in_ok-to.to c.in_ok-to.ensures c.in-Alone.is c.replace.ensures

pub returns : goal.returns
returns g c = kept_special _ _ _ _ _ _ c.in_ok-to.to c.in_ok-to.ensures c.in-Special.is c.append.ensures
