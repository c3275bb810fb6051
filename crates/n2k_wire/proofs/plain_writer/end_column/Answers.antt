use Rattle.std.proofs.Common.{refl}
use Rattle.n2k_wire.proofs.PlainTexts.{end_is}
use Rattle.n2k_wire.proofs.plain_writer.end_column.Goals as goal

pub returns : goal.returns
returns c = end_is c.args.data.now c.eight_digits-digits.result c.told-data (c.eight_digits-digits.ensures.lower refl)
