use Rattle.std.proofs.Common.{Ok, Err}
use Rattle.n2kdec.specs.System.Disk.{sync, write}
use Rattle.n2kdec.specs.Save.Replacement.{IsOne}
use Rattle.n2kdec.proofs.save.Making.{after, ended, one}
use Rattle.n2kdec.proofs.save.replacement.pour.Goals as goal

pub returns-in_err-write : goal.returns-in_err-write
returns-in_err-write g c =
    ended (IsOne sync) (after c.in_ok-set_mode.ensures (one (write c.args.text.now) (Err c.in_err-write.field-0.0) c.in_err-write.ensures)) c.from_residual-in_err-write.ensures.1

pub returns : goal.returns
returns g c = after (after c.in_ok-set_mode.ensures (one (write c.args.text.now) (Ok c.in_ok-write.field-0) c.in_ok-write.ensures)) (one sync c.sync.result c.sync.ensures)
