use Rattle.std.proofs.Common.{arith}
use Rattle.n2k_wire.proofs.FastLanes.{place_is}
use Rattle.n2k_wire.proofs.candump_fast.interface_end.Goals as goal

pub returns-then-at-lt-LANES : goal.returns-then-at-lt-LANES
returns-then-at-lt-LANES c = place_is c.args.text.now c.mask_of_others-mask.result (omega arith) (omega arith) c.mask_of_others-mask.ensures
