use Rattle.n2k_run.proofs.Owed.{prefix_of_both}
use Rattle.n2k_run.proofs.writing.write_parts.Goals as goal

pub returns-clause-prefix : goal.returns-clause-prefix
returns-clause-prefix g c = prefix_of_both c.write_all-2.result _ _ _ c.args.prefix.now c.args.rest.now c.in_ok-write_all.ensures.written c.write_all-2.ensures.prefix
