use Rattle.std.proofs.Common.{◌≡◌, true, option_map}
use Rattle.n2kdec.specs.System.Disk.{failure, kind_of}
use Rattle.n2kdec.specs.Save.Folder.{is_taken}
use Rattle.n2kdec.specs.Save.Replacement.{By, IsOne, failed, judged, make}
use Rattle.n2kdec.proofs.save.Making.{after, by, ended, failing, made_anew}
use Rattle.n2kdec.proofs.save.replacement.make.Goals as goal

pub returns-in_err-judged : goal.returns-in_err-judged
returns-in_err-judged g c =
    let taken : is_taken (option_map kind_of (failure c.make_new-answer.result)) ≡ true = cc in
    made_anew taken c.make_new-answer.ensures (ended (By failed (IsOne make)) (by judged c.remove_new.ensures c.in_err-judged.ensures) c.from_residual.ensures.1)

pub returns : goal.returns
returns g c =
    let taken : is_taken (option_map kind_of (failure c.make_new-answer.result)) ≡ true = cc in
    made_anew taken c.make_new-answer.ensures (after (by judged c.remove_new.ensures c.in_ok-judged.ensures) (failing c.make_new.ensures c.map_err.ensures.cases))
