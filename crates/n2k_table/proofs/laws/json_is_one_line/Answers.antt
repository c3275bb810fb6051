use Rattle.n2k_table.proofs.OneLine.{json-one}
use Rattle.n2k_table.proofs.laws.json_is_one_line.Goals as goal

pub returns : goal.returns
returns c = json-one
