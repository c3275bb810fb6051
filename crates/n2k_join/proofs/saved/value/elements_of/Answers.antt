use Rattle.std.proofs.Common.{arith}
use Rattle.std.proofs.lemmas.Grind.{common_steps}
use Rattle.n2k_join.proofs.SavedLists.{elements-items_of}
use Rattle.n2k_join.proofs.saved.value.elements_of.Goals as goal

pub returns : goal.returns
returns c = grind (arith, common_steps, elements-items_of)
