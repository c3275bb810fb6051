use Rattle.std.proofs.Common.{arith}
use Rattle.n2k_join.specs.Pieces.{piece_bytes}
use Rattle.n2k_join.proofs.InPlaceFrames.{fast_at, single_at}
use Rattle.n2k_join.proofs.splitter.Frames.data.Goals as goal

pub returns-in-Single-clause-value : goal.returns-in-Single-clause-value
returns-in-Single-clause-value c = grind (arith, single_at)

pub returns-in-Fast-clause-value : goal.returns-in-Fast-clause-value
unfolding piece_bytes
returns-in-Fast-clause-value c = grind (arith, fast_at)
