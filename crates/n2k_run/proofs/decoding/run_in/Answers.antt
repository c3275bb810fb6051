use Rattle.std.proofs.Common.{arith, ◌∙◌, ap}
use Rattle.n2k_join.specs.State.{State}
use Rattle.n2k_run.specs.Decoded.{join_fold, output_after}
use Rattle.n2k_run.specs.Fold.{after_all}
use Rattle.n2k_run.specs.Runs.{output_from}
use Rattle.n2k_run.proofs.LogSteps.{log_laws, output_after-is, state_after}
use Rattle.n2k_run.proofs.Ending.{runs_same, runs_more}
use Rattle.n2k_run.proofs.decoding.run_in.Goals as goal

pub returns-clause-log : goal.returns-clause-log
returns-clause-log g c = λ prefix is.
    let t = c.args.table.now in
    let o = c.args.options in
    let laws = log_laws o.window c.lemma_window_valid.ensures c.steps_agree.ensures c.lines_stay.ensures in
    let same = ap (output_from (join_fold t o.empty) o.packing) is ∙ output_after-is t o laws t.id prefix in
    let runs = runs_same _ _ _ _ _ _ same c.run_entries.ensures.runs in
    runs_more (output_after t o prefix) _ _ _ _ c.run_entries.result runs (λ es stands. stands ∙ ap (λ (s : State). after_all (join_fold t o.empty) s es) is ∙ state_after t o laws t.id prefix es)

pub returns-clause-steps : goal.returns-clause-steps
returns-clause-steps g c = grind (arith, runs_same)
