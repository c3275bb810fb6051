use Rattle.std.proofs.Common.{◌<◌, length, arith}
use Rattle.n2k_join.specs.Frames.{frames}
use Rattle.n2k_join.proofs.AnyLine.{moved_states}
use Rattle.n2k_join.proofs.Logs.{frames-log}
use Rattle.n2k_join.proofs.Windows.{open_within-open}
use Rattle.n2k_join.proofs.laws.moved_states.Goals as goal

pub returns : goal.returns
returns c = record {
  moved = moved_states;
  any = λ s is. record { some = omega (arith, is.window.least); groups = is.groups };
  logs = λ id w kind es is. let some : 0 < w.lines = omega (arith, is.least) in record { some = some; groups = open_within-open w (length es) some (frames kind es) (frames-log kind es) };
}
