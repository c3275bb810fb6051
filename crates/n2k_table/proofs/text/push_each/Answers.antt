use Rattle.std.proofs.Common.{arith, append_assoc}
use Rattle.std.proofs.lemmas.Grind.{common_steps}
use Rattle.std.proofs.lemmas.Result.{err_from_is_err_and}
use Rattle.n2k_table.proofs.Begins.{begins_through, begins_more}
use Rattle.n2k_table.proofs.text.push_each.Goals as goal

pub returns-in_err-push_escaped : goal.returns-in_err-push_escaped
returns-in_err-push_escaped g c =
    let p = err_from_is_err_and c.from_residual.result c.from_residual.ensures.1 in
    rw p.1 (begins_through _ _ _ c.loop-byte.invariant.prefix c.in_err-push_escaped.ensures)

pub loop-byte-preserved : goal.loop-byte-preserved
loop-byte-preserved g c = record {
  items = grind (arith, common_steps, append_assoc);
  prefix = begins_more _ _ _ _ c.loop-byte.invariant.prefix c.in_ok-push_escaped.ensures;
}
