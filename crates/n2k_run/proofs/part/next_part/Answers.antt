use Rattle.std.proofs.Common.{Some, ap, ◌∙◌}
use Rattle.n2k_run.specs.Parts.{begun}
use Rattle.n2k_run.specs.Runs.{sinks_seen}
use Rattle.n2k_run.proofs.Joined.{both_untouched, refused_memory, runs_part}
use Rattle.n2k_run.proofs.part.next_part.Goals as goal

pub returns-clause-memory_only : goal.returns-clause-memory_only
returns-clause-memory_only g c = λ s is.
    let read = ap (λ text. begun c.args.table.now c.args.options.now (Some text)) c.as_slice.ensures.value ∙ is.reads_back in
    refused_memory c.args.table.now c.args.options.now (Some c.as_slice.result.now) s c.run_part.result read c.run_part.ensures.runs.begins

pub returns-clause-log : goal.returns-clause-log
returns-clause-log g c = λ prefix is.
    let read = ap (λ text. begun c.args.table.now c.args.options.now (Some text)) c.as_slice.ensures.value ∙ is.reads_back in
    let before = sinks_seen g.W.Sink g.E.Sink c.args.writer.now c.args.reporter.now in
    let after = sinks_seen g.W.Sink g.E.Sink c.run_part.new.writer c.run_part.new.reporter in
    runs_part c.args.table.now c.args.options.now prefix c.args.part.now c.new-reader.result before after (Some c.run_part.new.reader.left) c.run_part.new.reader.calls c.run_part.result c.new-reader.ensures (c.run_part.ensures.runs.log prefix read)
    (both_untouched _ c.run_part.result c.args.writer.now c.run_part.new.writer c.args.reporter.now c.run_part.new.reporter (sinks_seen g.W.Sink g.E.Sink) c.run_part.ensures.untouched)
