use Rattle.std.proofs.Common.{◌≡◌, ◌≤◌, vec_len}
use Rattle.std.specs.Io.KnownBytes.{Consumes}
use Rattle.n2k_run.specs.Blocks.{CallsAre}
use Rattle.n2k_run.proofs.reading.read_bytes.Given as goal

abbrev pub invariant-loop-reads : goal.invariant-loop-reads
invariant-loop-reads g l = record {
  taken : Consumes (g.R.Source.remaining l.fn.reader) (g.R.Source.remaining l.reader) l.bytes.items;
  no_failure : g.R.Source.failed_calls l.reader ≡ g.R.Source.failed_calls l.fn.reader;
  a_byte_a_read : l._reads ≤ vec_len l.bytes;
  called : CallsAre (g.R.Source.calls l.fn.reader) (g.R.Source.calls l.reader) 0 l._reads;
  within : vec_len l.bytes ≤ l.limit;
}
