use Rattle.n2k_wire.proofs.PlainTexts.{lanes_are}
use Rattle.n2k_wire.proofs.plain_writer.digits_from.Goals as goal

pub returns : goal.returns
returns c = rw c.fits-numbers.0 at (lanes_are c.args.letter c.args.numbers)
