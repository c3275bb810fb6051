-- No bit that was passed is 1.
use Rattle.std.proofs.Common.{◌≡◌, ◌-◌}
use Rattle.n2k_table.specs.Bits.{bits_set}
use Rattle.n2k_table.proofs.flags.next_bit.Given as goal

abbrev pub invariant-loop-bit : goal.invariant-loop-bit
invariant-loop-bit l = bits_set l.raw l.from (l.end - l.from) ≡ bits_set l.raw l.bit (l.end - l.bit)
