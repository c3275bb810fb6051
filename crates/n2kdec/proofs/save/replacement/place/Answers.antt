use Rattle.std.proofs.Common.{refl}
use Rattle.n2kdec.specs.Save.Replacement.{By, Closes, IsNamed, WritesContent, failed, judged}
use Rattle.n2kdec.proofs.save.Making.{after, by, ended, failing, named, not_named, renamed}
use Rattle.n2kdec.proofs.save.replacement.place.Goals as goal

pub returns-in_err-make : goal.returns-in_err-make
returns-in_err-make g c =
    let d = c.args.to.now in
    ended (IsNamed d.kind) (ended (By failed (Closes (WritesContent d.mode c.args.text.now))) c.in_err-make.ensures refl) c.from_residual.ensures.1

pub returns-in_err-map_err : goal.returns-in_err-map_err
returns-in_err-map_err g c =
    ended (IsNamed c.args.to.now.kind) (after c.in_ok-make.ensures (failing c.pour_and_close.ensures c.in_err-map_err.ensures.cases)) c.from_residual-in_err-map_err.ensures.1

pub returns-in-Alone : goal.returns-in-Alone
returns-in-Alone g c =
    after (after c.in_ok-make.ensures (failing c.pour_and_close.ensures c.in_ok-map_err.ensures.cases))
    (named c.args.to.now.kind c.judged.result c.in-Alone.is (by judged (renamed c.as_str-new.result.now c.as_str.result.now c.rename.result c.as_str-new.ensures c.as_str.ensures c.rename.ensures) c.judged.ensures))

pub returns-in_default : goal.returns-in_default
returns-in_default g c =
    after (after c.in_ok-make.ensures (failing c.pour_and_close.ensures c.in_ok-map_err.ensures.cases)) (not_named (g.D.Disk.acts c.pour_and_close.new.disk) c.args.to.now.kind c.in_default.not-Alone)
