use Rattle.std.proofs.Common.{Some}
use Rattle.n2kdec.proofs.fault.reason.without_number.Goals as goal

pub returns-in-Some : goal.returns-in-Some
returns-in-Some c = (Some (c.in-Some.ensures.cases.0, c.in-Some.ensures.cases.1), c.in-Some.ensures.cases.2, c.in-Some.ensures.cases.3)
