use Rattle.std.proofs.Common.{◌^◌, ◌∙◌}
use Rattle.n2k_encode.proofs.Scaling.{one_zero_more}
use Rattle.n2k_encode.proofs.numeral.with_zeros.Goals as goal

pub loop-done-preserved : goal.loop-done-preserved
loop-done-preserved c = c.min-value.ensures ∙ one_zero_more c.args.number c.loop-done.done c.loop-done.value (2 ^ 100) c.loop-done.invariant
