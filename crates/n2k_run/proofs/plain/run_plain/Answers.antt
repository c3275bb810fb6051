use Rattle.std.proofs.lemmas.Result.{err_from_is_err_and}
use Rattle.n2k_run.specs.Plain.{plain_output}
use Rattle.n2k_run.proofs.Ending.{ok_more, err_more}
use Rattle.n2k_run.proofs.plain.run_plain.Goals as goal

pub returns-clause-runs : goal.returns-clause-runs
returns-clause-runs g c = ok_more plain_output _ _ _ _ _ _ c.in_ok-run_plain_counted.ensures.runs (λ es stands. stands)

pub returns-in_err-run_plain_counted-clause-runs : goal.returns-in_err-run_plain_counted-clause-runs
returns-in_err-run_plain_counted-clause-runs g c =
    let p = err_from_is_err_and c.from_residual.result c.from_residual.ensures.1 in
    rw (p.1, p.2) (err_more plain_output _ _ _ _ _ _ _ c.in_err-run_plain_counted.ensures.runs (λ es stands. tt))
