use Rattle.std.proofs.Common.{arith}
use Rattle.n2k_table.proofs.RawBits.{pow_le}
use Rattle.n2k_table.proofs.flags.flags_value.Goals as goal

pub overflow_sub-greatest : goal.overflow_sub-greatest
overflow_sub-greatest c = omega (arith, c.greatest-greatest.ensures, pow_le 1 c.args.bits c.requires.some)
