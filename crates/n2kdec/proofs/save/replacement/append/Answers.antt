use Rattle.std.proofs.Common.{◌≡◌, Ok, Err}
use Rattle.n2kdec.specs.System.Disk.{write}
use Rattle.n2kdec.specs.Save.Folder.{Target, appends}
use Rattle.n2kdec.specs.Save.Replacement.{Closes, IsOne}
use Rattle.n2kdec.proofs.save.Making.{after, closing, ended, one, opened}
use Rattle.n2kdec.proofs.save.replacement.append.Goals as goal

pub returns-in_err-open : goal.returns-in_err-open
returns-in_err-open g c =
    let how : c.append.result.now ≡ appends = cc in
    ended (Closes (IsOne (write c.args.text.now))) (opened Target c.as_str.result.now appends c.append.result.now (Err c.in_err-open.field-0.0) c.as_str.ensures how c.in_err-open.ensures) c.from_residual.ensures.1

pub returns : goal.returns
returns g c =
    let how : c.append.result.now ≡ appends = cc in
    after (opened Target c.as_str.result.now appends c.append.result.now (Ok c.in_ok-open.field-0) c.as_str.ensures how c.in_ok-open.ensures)
    (closing (one (write c.args.text.now) c.write-written.result c.write-written.ensures) c.close.ensures)
