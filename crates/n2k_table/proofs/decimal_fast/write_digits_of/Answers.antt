use Rattle.std.proofs.Common.{arith}
use Rattle.n2k_table.proofs.decimal_fast.write_digits_of.Goals as goal

pub returns-in_default-clause-items : goal.returns-in_default-clause-items
returns-in_default-clause-items g c = absurd (omega (arith, c.in_default.ensures.cases, c.requires, c.told-digits))

pub returns-in_default-clause-held : goal.returns-in_default-clause-held
returns-in_default-clause-held g c = absurd (omega (arith, c.in_default.ensures.cases, c.requires, c.told-digits))
