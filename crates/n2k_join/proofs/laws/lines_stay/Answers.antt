use Rattle.std.proofs.Common.{◌<◌, arith}
use Rattle.n2k_join.specs.Groups.{within}
use Rattle.n2k_join.proofs.Logs.{message-before, broken-before}
use Rattle.n2k_join.proofs.laws.lines_stay.Goals as goal

pub returns : goal.returns
returns c = λ w kind es e is. let some : 0 < w.lines = omega (arith, is.least) in record { messages = message-before (within w) kind es e; broken_groups = broken-before w some kind es e }
