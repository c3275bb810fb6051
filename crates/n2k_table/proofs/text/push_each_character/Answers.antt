use Rattle.std.proofs.Common.{arith, append_assoc}
use Rattle.std.proofs.lemmas.Grind.{common_steps}
use Rattle.std.proofs.lemmas.Result.{err_from_is_err_and}
use Rattle.n2k_table.proofs.Begins.{begins_through, begins_more}
use Rattle.n2k_table.proofs.text.push_each_character.Goals as goal

pub returns-in_err-push_character : goal.returns-in_err-push_character
returns-in_err-push_character g c =
    let p = err_from_is_err_and c.from_residual.result c.from_residual.ensures.1 in
    rw p.1 (begins_through _ _ _ c.loop-number.invariant.prefix c.in_err-push_character.ensures)

pub loop-number-preserved : goal.loop-number-preserved
loop-number-preserved g c = record {
  items = grind (arith, common_steps, append_assoc);
  prefix = begins_more _ _ _ _ c.loop-number.invariant.prefix c.in_ok-push_character.ensures;
}
