use Rattle.std.proofs.lemmas.Grind.{common_steps}
use Rattle.std.proofs.lemmas.Result.{err_from_is_err_and}
use Rattle.std.proofs.Common.{List, ℕ, ◌++◌, map, ap, arith, append_assoc}
use Rattle.n2k_table.specs.Json.{flag_json}
use Rattle.n2k_table.specs.Shown.{flags_left}
use Rattle.n2k_table.proofs.Begins.{begins_self, begins_through, begins_more}
use Rattle.n2k_table.proofs.Members.{members_from-joined}
use Rattle.n2k_table.proofs.line.push_bits.Goals as goal

pub loop-bit-init : goal.loop-bit-init
loop-bit-init g c = record {
  items = ap (λ (t : List ℕ). c.args.line.now.items ++ t) (members_from-joined (map flag_json (flags_left c.args.flags)));
  prefix = begins_self _;
}

pub returns-in_err-push_bit : goal.returns-in_err-push_bit
returns-in_err-push_bit g c =
    let p = err_from_is_err_and c.from_residual.result c.from_residual.ensures.1 in
    rw p.1 (begins_through _ _ _ c.loop-bit.invariant.prefix c.in_err-push_bit.ensures)

pub loop-bit-preserved : goal.loop-bit-preserved
loop-bit-preserved g c = record {
  items = grind (arith, common_steps, append_assoc);
  prefix = begins_more _ _ _ _ c.loop-bit.invariant.prefix c.in_ok-push_bit.ensures;
}
