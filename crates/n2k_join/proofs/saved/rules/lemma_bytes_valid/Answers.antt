use Rattle.std.proofs.Common.{arith}
use Rattle.n2k_join.proofs.SavedGroups.{small_bytes}
use Rattle.n2k_join.proofs.saved.rules.lemma_bytes_valid.Goals as goal

pub returns : goal.returns
returns c = small_bytes c.args.bytes.now (λ i. let fits = c.type_inv.bytes i in omega arith)
