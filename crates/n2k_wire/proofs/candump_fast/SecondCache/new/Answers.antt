use Rattle.n2k_wire.proofs.SecondCaches.{first_prefix}
use Rattle.n2k_wire.proofs.candump_fast.SecondCache.new.Goals as goal

pub invariant_of-result-clause-is_prefix : goal.invariant_of-result-clause-is_prefix
invariant_of-result-clause-is_prefix c = first_prefix
