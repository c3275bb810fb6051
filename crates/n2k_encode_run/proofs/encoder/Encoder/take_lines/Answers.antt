use Rattle.std.proofs.Common.{◌≡◌, ◌∷◌}
use Rattle.std.proofs.lemmas.Result.{err_from_is_err_and}
use Rattle.n2k_run.specs.Lines.{lines}
use Rattle.n2k_encode_run.proofs.More.{fault_before, one_before}
use Rattle.n2k_encode_run.proofs.encoder.Encoder.take_lines.Goals as goal

pub returns-in_err-take_line-clause-taken : goal.returns-in_err-take_line-clause-taken
returns-in_err-take_line-clause-taken c =
    let p = err_from_is_err_and c.from_residual.result c.from_residual.ensures.1 in
    let left = c.loop-left.left.now in
    let rest = c.first_line.result.1.now in
    let line = c.without_return.result.now in
    let first : lines left ≡ line ∷ lines rest = rw c.without_return.ensures c.first_line.ensures.lines in
    rw (p.1, p.2) (fault_before c.args.self.now.table.now c.args.self.now.nearest c.args.bytes.now c.args.ledger.now left rest line c.loop-left.ledger c.take_line.new.ledger _ c.loop-left.invariant.taken first c.in_err-take_line.ensures.taken)

pub loop-left-preserved : goal.loop-left-preserved
loop-left-preserved c =
    let left = c.loop-left.left.now in
    let rest = c.first_line.result.1.now in
    let line = c.without_return.result.now in
    let first : lines left ≡ line ∷ lines rest = rw c.without_return.ensures c.first_line.ensures.lines in
    record {
      taken = one_before c.args.self.now.table.now c.args.self.now.nearest c.args.bytes.now c.args.ledger.now left rest line c.loop-left.ledger c.take_line.new.ledger c.loop-left.invariant.taken first c.in_ok-take_line.ensures.taken;
      counts = c.in_ok-take_line.ensures.counts;
    }
