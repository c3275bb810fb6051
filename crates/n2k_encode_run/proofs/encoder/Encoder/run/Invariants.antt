use Rattle.std.proofs.Common.{◌≤◌, length}
use Rattle.n2k_run.specs.Runs.{seen}
use Rattle.n2k_encode_run.specs.Inner.Taking.{AreCounts, BetweenReads, most_kept}
use Rattle.n2k_encode_run.proofs.encoder.Encoder.run.Given as goal

abbrev pub invariant-loop-reads : goal.invariant-loop-reads
invariant-loop-reads g l =
    let before = seen g.R.Source g.W.Sink g.E.Sink l.fn.reader l.fn.writer l.fn.reporter in
    let now = seen g.R.Source g.W.Sink g.E.Sink l.reader l.writer l.reporter in
    record {
      stands : BetweenReads l.self.table.now l.self.nearest before now l.room.kept.items l.ledger l._reads;
      counts : AreCounts l.ledger.counts;
      few : length l.room.kept.items ≤ most_kept;
    }
