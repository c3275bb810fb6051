use Rattle.std.proofs.Common.{arith}
use Rattle.std.proofs.lemmas.Grind.{common_steps}
use Rattle.n2k_table.proofs.Keys.{has_only_keys-view}
use Rattle.n2k_table.proofs.tree.has_only_keys.Goals as goal

pub loop-key-init : goal.loop-key-init
loop-key-init c = (tt, tt, grind (arith, common_steps, has_only_keys-view))
