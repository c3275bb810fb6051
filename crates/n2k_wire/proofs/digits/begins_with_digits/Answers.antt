use Rattle.std.proofs.lemmas.Bool.{eqb-true}
use Rattle.n2k_wire.proofs.HexDigits.{six_of_eight}
use Rattle.n2k_wire.proofs.digits.begins_with_digits.Goals as goal

pub returns : goal.returns
returns c none = six_of_eight c.args.bytes c.fits-bytes.0 c.fits-bytes.1 (eqb-true _ _ none)
