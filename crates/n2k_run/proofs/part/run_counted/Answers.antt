use Rattle.std.proofs.Common.{None, Ok, ap, sym, ◌∙◌}
use Rattle.n2k_run.specs.Parts.{with_part}
use Rattle.n2k_run.specs.Runs.{seen}
use Rattle.n2k_run.proofs.LogSteps.{log_laws}
use Rattle.n2k_run.proofs.PartRuns.{finishes_with, kind_with, part_of, part_saves, runs_from, saves_with}
use Rattle.n2k_run.proofs.part.run_counted.Goals as goal

pub returns : goal.returns
returns g c =
    let o = c.args.options in
    let before = seen g.R.Source g.W.Sink g.E.Sink c.args.reader.now c.args.writer.now c.args.reporter.now in
    let after = seen g.R.Source g.W.Sink g.E.Sink c.run-ran.new.reader c.run-ran.new.writer c.run-ran.new.reporter in
    let s = c.run-ran.new.join in
    let valid = c.joins_are_valid.ensures in
    let part = part_of c.args.alloc s valid.state valid.id in
    let saves = part_saves c.args.alloc s valid.state valid.id c.state_reads_back.ensures.same in
    let ran = c.run-ran.result in
    record {
      runs = (
        part,
        saves.counted ∙ sym c.counts.ensures,
        runs_from (record {
          new = c.groups_stay_fast.ensures.new;
          read = c.groups_stay_fast.ensures.read;
          same_table = c.groups_stay_fast.ensures.same_table;
          same_window = c.groups_stay_fast.ensures.same_window;
          step = c.groups_stay_fast.ensures.step;
        }) c.args.table.now o c.lemma_window_valid.ensures (log_laws o.window c.lemma_window_valid.ensures c.steps_agree.ensures c.lines_stay.ensures) c.lemma_id_valid.ensures before after
            None c.new-join.result s ran (with_part part ran) (sym (ap Ok c.new-join.ensures)) c.run-ran.ensures.steps (saves_with part s ran saves) (finishes_with part ran) (kind_with part ran),
      );
    }
