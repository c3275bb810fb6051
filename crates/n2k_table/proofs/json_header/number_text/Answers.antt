use Rattle.std.proofs.Common.{arith}
use Rattle.n2k_table.proofs.Headers.{number_text}
use Rattle.n2k_table.proofs.json_header.number_text.Goals as goal

pub returns-clause-text : goal.returns-clause-text
returns-clause-text c = number_text c.args.number (omega (arith, c.ranges.number.fits))
