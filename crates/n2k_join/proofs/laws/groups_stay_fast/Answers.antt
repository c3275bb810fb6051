use Rattle.std.proofs.Common.{arith}
use Rattle.n2k_join.specs.Open.{open_groups, waiting}
use Rattle.n2k_join.proofs.ReadStates.{read-spelled, valid-fast}
use Rattle.n2k_join.proofs.Keeping.{step-fast}
use Rattle.n2k_join.proofs.laws.groups_stay_fast.Goals as goal

pub returns-clause-new : goal.returns-clause-new
unfolding open_groups waiting
returns-clause-new c = λ kind id w. tt

pub returns-clause-read : goal.returns-clause-read
returns-clause-read c = λ kind id w bytes s is. valid-fast kind s (read-spelled kind id w bytes s is).valid

pub returns-clause-same_table : goal.returns-clause-same_table
returns-clause-same_table c = λ kind id w bytes s is. (read-spelled kind id w bytes s is).same_table

pub returns-clause-same_window : goal.returns-clause-same_window
returns-clause-same_window c = λ kind id w bytes s is. (read-spelled kind id w bytes s is).same_window

pub returns-clause-step : goal.returns-clause-step
returns-clause-step c = λ kind s e window fast. step-fast kind s e (omega (arith, window.least)) fast
