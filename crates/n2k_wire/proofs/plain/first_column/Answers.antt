use Rattle.n2k_wire.proofs.Columns.{columns_cut, columns_uncut}
use Rattle.n2k_wire.proofs.plain.first_column.Goals as goal

pub returns-in-Some : goal.returns-in-Some
returns-in-Some c = columns_cut 44 c.args.text.now _ _ c.in-Some.ensures

pub returns-in-None : goal.returns-in-None
returns-in-None c = columns_uncut 44 c.args.text.now c.in-None.ensures
