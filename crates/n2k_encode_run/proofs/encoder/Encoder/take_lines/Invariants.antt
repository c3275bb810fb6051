use Rattle.std.proofs.Common.{length}
use Rattle.n2k_encode_run.specs.Inner.Taking.{AreCounts, TakesBefore}
use Rattle.n2k_encode_run.proofs.encoder.Encoder.take_lines.Given as goal

abbrev pub invariant-loop-left : goal.invariant-loop-left
invariant-loop-left l = record {
  taken : TakesBefore l.self.table.now l.self.nearest l.bytes l.left l.fn.ledger l.ledger;
  counts : AreCounts l.ledger.counts;
}

abbrev pub decreases-loop-left : goal.decreases-loop-left
decreases-loop-left l = length l.left
