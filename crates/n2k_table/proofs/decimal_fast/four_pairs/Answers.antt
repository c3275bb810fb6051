use Rattle.std.proofs.Common.{arith}
use Rattle.n2k_table.proofs.Splits.{hundreds_are}
use Rattle.n2k_table.proofs.decimal_fast.four_pairs.Goals as goal

pub overflow_sub-result : goal.overflow_sub-result
overflow_sub-result c = omega (arith, hundreds_are c.args.number c.requires)

pub returns : goal.returns
returns c = omega (arith, hundreds_are c.args.number c.requires)
