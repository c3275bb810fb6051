use Rattle.std.proofs.Common.{arith}
use Rattle.n2k_wire.proofs.FastLanes.{none_stops, one_stops}
use Rattle.n2k_wire.proofs.plain_fast.stamp_len.Goals as goal

pub returns-then-mask-eq0-clause-prefix : goal.returns-then-mask-eq0-clause-prefix
returns-then-mask-eq0-clause-prefix c = none_stops c.args.text.now 32 c.told-text (omega (arith, c.mask_of_others-mask.ensures))

pub returns-else-mask-eq0-clause-prefix : goal.returns-else-mask-eq0-clause-prefix
returns-else-mask-eq0-clause-prefix c = (one_stops c.args.text.now c.mask_of_others-mask.result (omega arith) c.mask_of_others-mask.ensures (omega arith)).0

pub returns-else-mask-eq0-clause-within : goal.returns-else-mask-eq0-clause-within
returns-else-mask-eq0-clause-within c = omega (arith, (one_stops c.args.text.now c.mask_of_others-mask.result (omega arith) c.mask_of_others-mask.ensures (omega arith)).1)
