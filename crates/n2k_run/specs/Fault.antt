-- A run's faults for the faults of other crates.
use Rattle.n2k_join.specs.declared.fault.JoinFault.{JoinFault}
use Rattle.n2k_join.specs.declared.fault.JoinFault.TheVariants as join
use Rattle.n2k_run.specs.declared.fault.RunFault.{RunFault}
use Rattle.n2k_run.specs.declared.fault.RunFault.TheVariants as run

-- the fault of a run whose join refuses a line
abbrev pub fault_of_join : JoinFault → RunFault
fault_of_join join.Memory = run.Memory
fault_of_join join.TooManyLines = run.TooManyLines
