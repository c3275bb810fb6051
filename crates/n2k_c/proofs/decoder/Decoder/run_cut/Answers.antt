use Rattle.std.proofs.Common.{Ok, Err, refl}
use Rattle.n2k_c.proofs.Feeding.{runs_cut}
use Rattle.n2k_c.proofs.decoder.Decoder.run_cut.Goals as goal

pub returns-in-Err-clause-runs : goal.returns-in-Err-clause-runs
returns-in-Err-clause-runs c = λ t job taken printed reported whole b.
    runs_cut t job taken printed reported c.args.self.now (record c.args.self.now { work = c.take.new.self; output = c.take.new.output; reports = c.take.new.reports })
    c.deref.result.now c.deref-2.result.now (Err c.in-Err.fault) c.deref.ensures c.deref-2.ensures.value refl c.in-Err.ensures whole b

pub returns-in-Ok-clause-runs : goal.returns-in-Ok-clause-runs
returns-in-Ok-clause-runs c = λ t job taken printed reported whole b.
    runs_cut t job taken printed reported c.args.self.now _ c.deref.result.now c.deref-2.result.now (Ok tt) c.deref.ensures c.deref-2.ensures.value refl c.in-Ok.ensures whole b
