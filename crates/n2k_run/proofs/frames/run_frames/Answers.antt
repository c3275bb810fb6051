use Rattle.std.proofs.lemmas.Result.{err_from_is_err_and}
use Rattle.n2k_run.specs.FramesOut.{frames_output, interface_of}
use Rattle.n2k_run.proofs.Ending.{ok_more, err_more}
use Rattle.n2k_run.proofs.frames.run_frames.Goals as goal

pub returns-clause-runs : goal.returns-clause-runs
returns-clause-runs g c = ok_more (frames_output c.args.table.now (interface_of c.args.interface)) _ _ _ _ _ _ c.in_ok-run_frames_counted.ensures.runs (λ es stands. stands)

pub returns-in_err-run_frames_counted-clause-runs : goal.returns-in_err-run_frames_counted-clause-runs
returns-in_err-run_frames_counted-clause-runs g c =
    let p = err_from_is_err_and c.from_residual.result c.from_residual.ensures.1 in
    rw (p.1, p.2) (err_more (frames_output c.args.table.now (interface_of c.args.interface)) _ _ _ _ _ _ _ c.in_err-run_frames_counted.ensures.runs (λ es stands. tt))
