use Rattle.std.proofs.Common.{arith, ◌+◌, rules}
use Rattle.std.proofs.lemmas.Result.{err_from_is_err_and}
use Rattle.n2k_table.specs.Table.{kind}
use Rattle.n2k_join.specs.Inner.Order.{listed}
use Rattle.n2k_join.proofs.ValidStates.{rules_broken, groups_broken, all_hold, is_state}
use Rattle.n2k_join.proofs.join.Join.from_state.Goals as goal

pub returns-then-not-rules_hold : goal.returns-then-not-rules_hold
returns-then-not-rules_hold c = grind (arith, rules_broken)

pub returns-in_err-stored : goal.returns-in_err-stored
returns-in_err-stored c = grind (arith, err_from_is_err_and, groups_broken)

pub invariant_of-result : goal.invariant_of-result
invariant_of-result c = grind (arith, is_state (kind c.args.table.now) c.args.id c.args.window c.args.counts c.args.groups.now c.rules_hold.result c.rules_hold.ensures (listed c.in_ok-stored.stored) c.len-held.result c.if-not-rules_hold.false c.in_ok-stored.ensures.value (c.len-held.ensures (c.args.counts.lines + 1) c.in_ok-stored.ensures.kept) (search rules) c.in_ok-stored.ensures.parts)

pub returns : goal.returns
returns c = grind (arith, all_hold)
