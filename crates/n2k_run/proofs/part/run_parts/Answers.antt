use Rattle.std.proofs.Common.{ℕ, List, [], map, take, drop, suc, get_or, Bor, sym, subst, arith, inr}
use Rattle.std.proofs.lemmas.List.{map_more, take_all}
use Rattle.std.proofs.lemmas.Result.{err_from_is_err_and}
use Rattle.n2k_run.specs.Decoded.{out_of}
use Rattle.n2k_run.specs.Parts.{TakesAll, entries_of_parts}
use Rattle.n2k_run.specs.Runs.{sinks_seen}
use Rattle.n2k_run.proofs.Joined.{next_taken, not_read, prints_log, split_parts}
use Rattle.n2k_run.proofs.LogSteps.{log_laws}
use Rattle.n2k_run.proofs.part.run_parts.Goals as goal

pub returns-in_err-last-2-clause-log : goal.returns-in_err-last-2-clause-log
returns-in_err-last-2-clause-log g c =
    let none : Bor (List ℕ) = record { ref_ptr = (0, 0); now = [] } in
    let now : Bor (List ℕ) → List ℕ = λ part. part.now in
    let parts = c.args.parts.now in
    let i = c.loop-part.part-index in
    let p = err_from_is_err_and c.from_residual-in_err-last-2.result c.from_residual-in_err-last-2.ensures.1 in
    rw (p.1, p.2) (inr (record {
      done = map now (take i parts);
      met = (get_or parts i none).now;
      later = map now (drop (suc i) parts);
      parts_are = split_parts parts i none c.loop-part-test.true;
      between = sinks_seen g.W.Sink g.E.Sink c.loop-part.writer c.loop-part.reporter;
      taken = c.loop-part.invariant.taken;
      runs = c.in_err-last-2.ensures.log (entries_of_parts c.args.options (map now (take i parts))) c.loop-part.invariant.leads_to;
    }))

pub returns-in_err-last-2-clause-never_read : goal.returns-in_err-last-2-clause-never_read
returns-in_err-last-2-clause-never_read g c = λ few. not_read _ _ _ _ _ _ few (returns-in_err-last-2-clause-log g c)

pub loop-part-preserved : goal.loop-part-preserved
loop-part-preserved g c =
    let none : Bor (List ℕ) = record { ref_ptr = (0, 0); now = [] } in
    let now : Bor (List ℕ) → List ℕ = λ part. part.now in
    let parts = c.args.parts.now in
    let i = c.loop-part.part-index in
    let before = sinks_seen g.W.Sink g.E.Sink c.args.writer.now c.args.reporter.now in
    let after = sinks_seen g.W.Sink g.E.Sink c.next_part.new.writer c.next_part.new.reporter in
    let laws = log_laws c.args.options.window c.lemma_window_valid.ensures c.steps_agree.ensures c.lines_stay.ensures in
    let run = c.in_ok-last-2.ensures.log (entries_of_parts c.args.options (map now (take i parts))) c.loop-part.invariant.leads_to in
    subst (λ ps. TakesAll c.args.table.now c.args.options ps before after c.in_ok-last-2.last) (sym (map_more now parts i none c.loop-part-test.true)) (next_taken _ _ laws (map now (take i parts)) _ _ _ _ _ _ c.loop-part.invariant run)

pub returns-clause-log : goal.returns-clause-log
returns-clause-log g c =
    let now : Bor (List ℕ) → List ℕ = λ part. part.now in
    let parts = c.args.parts.now in
    let before = sinks_seen g.W.Sink g.E.Sink c.args.writer.now c.args.reporter.now in
    let after = sinks_seen g.W.Sink g.E.Sink c.loop-part.writer c.loop-part.reporter in
    subst (λ ps. TakesAll c.args.table.now c.args.options (map now ps) before after c.loop-part.last) (take_all c.loop-part.part-index parts (omega (arith, c.loop-part-test.false))) c.loop-part.invariant

pub returns-clause-headline : goal.returns-clause-headline
returns-clause-headline g c = λ cut. prints_log _ _ _ _ _ _ cut (returns-clause-log g c)

pub returns-clause-in_order : goal.returns-clause-in_order
returns-clause-in_order g c = λ order.
    let parts = map (λ (part : Bor (List ℕ)). part.now) c.args.parts.now in
    record {
      text = out_of c.args.table.now c.args.options (entries_of_parts c.args.options parts);
      gained = (returns-clause-log g c).taken.printed;
      each_line = c.printed_in_order.ensures.parts c.args.table.now c.args.options parts order;
    }
