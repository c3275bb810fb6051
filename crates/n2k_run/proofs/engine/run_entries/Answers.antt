use Rattle.std.proofs.Common.{sym, ◌∙◌}
use Rattle.std.proofs.lemmas.Result.{err_from_is_err_and}
use Rattle.n2k_run.specs.Runs.{Devices, seen}
use Rattle.n2k_run.proofs.HeldLines.{nearer}
use Rattle.n2k_run.proofs.Running.{begins, writes, none_read, sink_end, memory_end, last_end, still_made, fault_end, lead_of, calls_here, calls_next}
use Rattle.n2k_run.proofs.engine.run_entries.Given.{Over}
use Rattle.n2k_run.proofs.engine.run_entries.Goals as goal

abbrev devices : (g : Over) → g.row.R.Denot → g.row.W.Denot → g.row.E.Denot → Devices
devices g = seen g.R.Source g.W.Sink g.E.Sink

pub lines-init : goal.lines-init
lines-init g c = record { stands = begins _ _ _ _ _ _ _ c.restart.ensures c.clear.ensures.text c.clear.ensures.report; ready = c.requires }

pub returns-in_err-write-clause-runs : goal.returns-in_err-write-clause-runs
returns-in_err-write-clause-runs g c =
    let p = err_from_is_err_and c.from_residual.result c.from_residual.ensures.1 in
    let e = c.in_err-write.ensures in
    let stands = c.lines.invariant.stands in
    rw (p.1, p.2) (sink_end _ _ _ _ _ _ _ _ _ (devices g c.lines.reader c.lines.writer c.lines.reporter) (devices g c.lines.reader c.write.new.writer c.write.new.reporter) _ stands.made (lead_of _ _ _ _ _ _ _ _ _ stands) stands.none_failed.reads stands.none_failed.writes stands.none_failed.reports e.written e.device (calls_here _ _ _ _ _ _ _ _ _ stands))

pub lines-preserved : goal.lines-preserved
lines-preserved g c =
    let w = c.in_ok-write.ensures in
    let e = c.in-Ok.ensures in
    let here = writes _ _ _ _ _ _ _ _ _ _ _ _ _ _ _ c.lines.invariant.stands w.written w.device w.none_pending in
    record { stands = e.taken _ _ (devices g c.lines.reader c.write.new.writer c.write.new.reporter) here; ready = e.ready }

pub lines-smaller : goal.lines-smaller
lines-smaller g c = nearer (g.H.EntryHandler.fold c.args.handler.now) _ _ c.lines.blocks.has_ended _ (sym c.has_ended.ensures ∙ c.lines-test.true) c.in-Ok.ensures.proceeds

pub returns-in-Memory-clause-runs : goal.returns-in-Memory-clause-runs
returns-in-Memory-clause-runs g c =
    let w = c.in_ok-write.ensures in
    let here = writes _ _ _ _ _ _ _ _ _ _ _ _ _ _ _ c.lines.invariant.stands w.written w.device w.none_pending in
    let stop = c.in-Err.ensures.taken _ _ (devices g c.lines.reader c.write.new.writer c.write.new.reporter) here in
    rw c.in-Memory.is (memory_end _ _ _ _ _ _ _ _ _ _ _ _ _ stop.stands stop.on stop.reads (rw c.in-Memory.is at stop.device))

pub returns-in_err-write-in_default : goal.returns-in_err-write-in_default
returns-in_err-write-in_default g c =
    let p = err_from_is_err_and c.from_residual-in_err-write-in_default.result c.from_residual-in_err-write-in_default.ensures.1 in
    let v = c.in_ok-write.ensures in
    let here = writes _ _ _ _ _ _ _ _ _ _ _ _ _ _ _ c.lines.invariant.stands v.written v.device v.none_pending in
    let stop = c.in-Err.ensures.taken _ _ (devices g c.lines.reader c.write.new.writer c.write.new.reporter) here in
    let w = c.in_err-write-in_default.ensures in
    let sound = none_read (g.H.EntryHandler.fold c.args.handler.now) c.args.packing _ _ _ _ _ _ _ _ _ _ _ _ _ _ _ _ c.in-Err.fault _ stop.next c.in_default.not-Memory stop.device w.written in
    let made = still_made _ _ _ _ _ _ _ _ _ _ _ _ _ _ (g.R.Source.calls c.take_lines.new.reader) (g.R.Source.failed_calls c.take_lines.new.reader) c.in-Err.fault stop.stands stop.next c.in_default.not-Memory _ stop.stands.made in
    record {
      runs = rw (p.1, p.2) (sink_end _ _ _ _ _ _ _ _ _ (devices g c.take_lines.new.reader c.write.new.writer c.write.new.reporter) (devices g c.take_lines.new.reader c.write-in_default.new.writer c.write-in_default.new.reporter) _ made (lead_of _ _ _ _ _ _ _ _ _ stop.stands) (sound ∙ stop.stands.none_failed.reads) stop.stands.none_failed.writes stop.stands.none_failed.reports w.written w.device (calls_next _ _ _ _ _ _ _ _ _ _ _ stop.stands stop.on stop.reads));
      ready = rw p.1 tt;
    }

pub returns-in_default : goal.returns-in_default
returns-in_default g c =
    let v = c.in_ok-write.ensures in
    let here = writes _ _ _ _ _ _ _ _ _ _ _ _ _ _ _ c.lines.invariant.stands v.written v.device v.none_pending in
    let stop = c.in-Err.ensures.taken _ _ (devices g c.lines.reader c.write.new.writer c.write.new.reporter) here in
    let w = c.in_ok-write-in_default.ensures in
    record {
      runs = fault_end _ _ _ _ _ _ _ _ _ _ _ _ _ _ _ _ _ _ _ _ c.in-Err.fault stop.stands stop.on stop.next c.in_default.not-Memory stop.device stop.called stop.reads w.written w.device;
      ready = tt;
    }

pub returns-clause-runs : goal.returns-clause-runs
returns-clause-runs g c =
    last_end _ _ _ _ _ _ _ _ _ _ _ _ _ c.write-2.result c.lines.invariant.stands (sym c.has_ended.ensures ∙ c.lines-test.false) c.write-2.ensures.written c.write-2.ensures.device
