use Rattle.std.proofs.Common.{◌≡◌, ◌-◌}
use Rattle.n2k_run.specs.Blocks.{HasFeed}
use Rattle.n2k_run.specs.Inner.Block.{Reads}
use Rattle.n2k_run.specs.Reading.{most_reads}
use Rattle.n2k_run.proofs.blocks.Blocks.find_end.Given as goal

abbrev pub invariant-loop-size : goal.invariant-loop-size
invariant-loop-size g l = record {
  reads : Reads 0 l.fn.self l.self (g.R.Source.remaining l.fn.reader) (g.R.Source.remaining l.reader) (g.R.Source.calls l.fn.reader) (g.R.Source.calls l.reader);
  quiet : HasFeed l.fn.self.kept → (l.reader ≡ l.fn.reader) × (l.self ≡ l.fn.self);
  none_failed : g.R.Source.failed_calls l.reader ≡ g.R.Source.failed_calls l.fn.reader;
}

abbrev pub decreases-loop-size : goal.decreases-loop-size
decreases-loop-size g l = most_reads - l.self.reads
