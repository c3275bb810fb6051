use Rattle.std.proofs.Common.{arith, option_map}
use Rattle.std.proofs.lemmas.Result.{err_from_is_err_and}
use Rattle.n2k_run.specs.Runs.{seen}
use Rattle.n2k_run.proofs.LogSteps.{log_laws}
use Rattle.n2k_run.proofs.PartRuns.{runs_from}
use Rattle.n2k_run.proofs.Parting.{memory_alone, refused_by, unbegun}
use Rattle.n2k_run.proofs.part.run_part.Goals as goal

pub returns-in_err-join-clause-runs : goal.returns-in_err-join-clause-runs
returns-in_err-join-clause-runs g c = grind (arith, err_from_is_err_and, refused_by, unbegun, memory_alone)

pub returns-clause-runs : goal.returns-clause-runs
returns-clause-runs g c =
    let o = c.args.options in
    let before = seen g.R.Source g.W.Sink g.E.Sink c.args.reader.now c.args.writer.now c.args.reporter.now in
    let after = seen g.R.Source g.W.Sink g.E.Sink c.run-ran.new.reader c.run-ran.new.writer c.run-ran.new.reporter in
    runs_from (record {
      new = c.groups_stay_fast.ensures.new;
      read = c.groups_stay_fast.ensures.read;
      same_table = c.groups_stay_fast.ensures.same_table;
      same_window = c.groups_stay_fast.ensures.same_window;
      step = c.groups_stay_fast.ensures.step;
    }) c.args.table.now o c.lemma_window_valid.ensures (log_laws o.window c.lemma_window_valid.ensures c.steps_agree.ensures c.lines_stay.ensures) c.lemma_id_valid.ensures before after
    (option_map (λ bytes. bytes.now) c.args.saved) c.in_ok-join.join c.run-ran.new.join c.run-ran.result c.finish.result c.in_ok-join.ensures.state c.run-ran.ensures.steps c.finish.ensures.part c.finish.ensures.ran c.finish.ensures.fault_kinds
