use Rattle.std.proofs.Common.{Err, ap}
use Rattle.n2kdec.proofs.run.AskedLemmas.{refused_asks}
use Rattle.n2kdec.proofs.run.program.typed_request.Goals as goal

pub returns : goal.returns
returns g c =
    refused_asks (g.M.Machine.world c.args.machine.now) c.in-Err.fault c.in-Err.ensures.fault (λ is. c.in-Err.ensures.texts (ap (λ f. Err f) is))
