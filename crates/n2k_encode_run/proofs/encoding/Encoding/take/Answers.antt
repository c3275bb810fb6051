use Rattle.std.proofs.Common.{◌≡◌, ap, subst, ◌∙◌}
use Rattle.std.proofs.lemmas.Result.{err_from_is_err_and}
use Rattle.n2k_run.specs.Lines.{lines}
use Rattle.n2k_run.specs.Runs.{sinks_seen}
use Rattle.n2k_encode_run.specs.Inner.Taking.{TakesLines}
use Rattle.n2k_encode_run.specs.More.{EncodingParts}
use Rattle.n2k_encode_run.proofs.More.{unwritten}
use Rattle.n2k_encode_run.proofs.encoding.Encoding.take.Goals as goal

pub returns-in_err-write : goal.returns-in_err-write
returns-in_err-write g c =
    let t = c.args.table.now in
    let p = err_from_is_err_and c.from_residual-in_err-write.result c.from_residual-in_err-write.ensures.1 in
    let before = sinks_seen g.W.Sink g.E.Sink c.args.writer.now c.args.reporter.now in
    let after = sinks_seen g.W.Sink g.E.Sink c.write.new.writer c.write.new.reporter in
    let own : EncodingParts = record { nearest = c.self.inside.nearest; counts = c.self.inside.counts } in
    let same : own ≡ c.args.self.now = c.self.view_is in
    let takes = subst (λ (e : EncodingParts). TakesLines t e.nearest (lines c.args.more.now) c.new-ledger.result c.take_lines.new.ledger) same c.in_ok-take_lines.ensures.taken in
    rw (p.1, p.2) (unwritten t c.args.more.now c.args.self.now c.new-ledger.result c.take_lines.new.ledger (c.new-ledger.ensures.counts ∙ ap (λ (e : EncodingParts). e.counts) same) c.new-ledger.ensures.text c.new-ledger.ensures.report
    takes before after _ own same c.in_err-write.ensures.written c.in_err-write.ensures.device)
