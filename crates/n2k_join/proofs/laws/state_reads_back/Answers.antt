use Rattle.n2k_join.proofs.StateReads.{state_back, state_under, state_elsewhere}
use Rattle.n2k_join.proofs.laws.state_reads_back.Goals as goal

pub returns : goal.returns
returns c = record { same = state_back; any_order = state_under; other_window = state_elsewhere }
