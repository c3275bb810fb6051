-- What the map of a TOML table finds is the member of its view.
use Rattle.toml.proofs.Views.{table_get}
use Rattle.n2k_table.proofs.tree.get.Goals as goal

pub returns : goal.returns
returns c = table_get c.get.result c.args.key.now c.args.table.now.entries c.get.ensures.value
