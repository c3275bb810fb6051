use Rattle.std.proofs.Common.{arith}
use Rattle.n2k_join.proofs.JoinLemmas.{none-listed, on_err}
use Rattle.n2k_join.proofs.entry_taking.take_fast.Goals as goal

pub returns-in_err-is_message-clause-memory : goal.returns-in_err-is_message-clause-memory
returns-in_err-is_message-clause-memory c = grind (arith, none-listed, on_err)
