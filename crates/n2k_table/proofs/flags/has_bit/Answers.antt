use Rattle.std.proofs.Common.{arith, sym}
use Rattle.n2k_table.proofs.FlagBits.{bit_past}
use Rattle.n2k_table.proofs.flags.has_bit.Goals as goal

pub returns-in-None : goal.returns-in-None
returns-in-None c = sym (bit_past c.args.raw c.args.bit (omega (arith, c.ranges.raw)) (omega arith))
