use Rattle.std.proofs.Common.{◌∙◌}
use Rattle.n2k_run.proofs.Owed.{Owes-taken}
use Rattle.n2k_run.proofs.writing.write_all.Goals as goal

pub loop-rest-preserved : goal.loop-rest-preserved
loop-rest-preserved g c = record {
  owed = Owes-taken _ _ _ _ _ _ c.loop-rest.invariant.owed c.in_ok-taken.ensures.bytes;
  no_failure = c.in_ok-taken.ensures.counted ∙ c.loop-rest.invariant.no_failure;
}
