use Rattle.std.proofs.Common.{◌<◌, arith}
use Rattle.n2k_join.proofs.CutLaws.{cut_grows, settles}
use Rattle.n2k_join.proofs.laws.cut_grows.Goals as goal

pub returns : goal.returns
returns c = record { grows = cut_grows; settled = λ w kind prefix back is. let some : 0 < w.lines = omega (arith, is.least) in settles w some kind prefix back }
