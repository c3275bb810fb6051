use Rattle.std.proofs.Common.{◌≡◌, length}
use Rattle.n2k_run.specs.Writing.{Owes}
use Rattle.n2k_run.proofs.writing.write_all.Given as goal

abbrev pub invariant-loop-rest : goal.invariant-loop-rest
invariant-loop-rest g l = record {
  owed : Owes (g.W.Sink.contents l.fn.writer) (g.W.Sink.contents l.writer) l.text l.rest;
  no_failure : g.W.Sink.failed_calls l.writer ≡ g.W.Sink.failed_calls l.fn.writer;
}

abbrev pub decreases-loop-rest : goal.decreases-loop-rest
decreases-loop-rest g l = length l.rest
