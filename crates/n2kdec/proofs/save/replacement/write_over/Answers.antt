use Rattle.n2kdec.proofs.save.Making.{after, not_over, over}
use Rattle.n2kdec.proofs.save.replacement.write_over.Goals as goal

pub returns-in_err-pour_and_close : goal.returns-in_err-pour_and_close
returns-in_err-pour_and_close g c = not_over (after c.in_ok-empty.ensures c.in_err-pour_and_close.ensures) c.from_residual-in_err-pour_and_close.ensures.1

pub returns : goal.returns
returns g c = over (after c.in_ok-empty.ensures c.in_ok-pour_and_close.ensures) c.remove_new.ensures
