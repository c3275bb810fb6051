use Rattle.std.proofs.Common.{arith}
use Rattle.std.proofs.lemmas.Grind.{common_steps}
use Rattle.n2k_table.proofs.Each.{elements-items_of}
use Rattle.n2k_table.proofs.tree.as_elements.Goals as goal

pub returns : goal.returns
returns c = grind (arith, common_steps, elements-items_of)
