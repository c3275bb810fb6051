use Rattle.n2k_run.specs.Entries.{entries}
use Rattle.n2k_run.specs.Runs.{sinks_seen}
use Rattle.n2k_run.proofs.LogSteps.{log_laws}
use Rattle.n2k_run.proofs.MoreLines.{ends_more}
use Rattle.n2k_run.proofs.more.run_more.Goals as goal

pub returns : goal.returns
returns g c = record {
  headline = λ prefix whole is.
      let o = c.args.options in
      let laws = log_laws o.window c.lemma_window_valid.ensures c.steps_agree.ensures c.lines_stay.ensures in
      let before = sinks_seen g.W.Sink g.E.Sink c.args.writer.now c.args.reporter.now in
      let after = sinks_seen g.W.Sink g.E.Sink c.run_in.new.writer c.run_in.new.reporter in
      ends_more c.args.table.now o laws prefix whole c.args.more.now c.new-reader.result before after c.run_in.new.reader.calls _ c.run_in.new.join c.run_in.result c.new-reader.ensures
      (c.run_in.ensures.log (entries o.packing prefix) is);
}
