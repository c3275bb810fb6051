-- More of a log, in memory, after a prefix that a join has taken.
use Rattle.std.specs.Prelude.{◌≡◌, ◌<◌, ◌≤◌, ◌+◌, ℕ, List, ◌++◌, length, Result, Ok, Err}
use Rattle.std.specs.Io.KnownBytes.{Appends}
use Rattle.n2k_table.specs.Table.{TableParts}
use Rattle.n2k_join.specs.Counts.{most_lines}
use Rattle.n2k_join.specs.State.{State}
use Rattle.n2k_run.specs.declared.fault.RunFault.{RunFault}
use Rattle.n2k_run.specs.declared.fault.RunFault.TheVariants.{Read, Write, Report, Memory, TooManyLines}
use Rattle.n2k_run.specs.declared.options.Options.{Options}
use Rattle.n2k_run.specs.Decoded.{out, reports}
use Rattle.n2k_run.specs.Device.{HasFailed}
use Rattle.n2k_run.specs.Entries.{entries}
use Rattle.n2k_run.specs.Headline.{state_after}
use Rattle.n2k_run.specs.Reading.{most_reads}
use Rattle.n2k_run.specs.Runs.{Devices}

-- The sinks gained exactly the output and the reports of both after those of `prefix`, and the join is in the state that
-- both lead to.
pub record TakesMore (t : TableParts) (o : Options) (prefix more : List ℕ) (before after : Devices)
    (join : State) : Type 0 where
  pub text : List ℕ
  pub printed : Appends before.written after.written text
  pub output : out t o (prefix ++ more) ≡ out t o prefix ++ text
  pub report : List ℕ
  pub reported : Appends before.reported after.reported report
  pub all_reports : reports t o (prefix ++ more) ≡ reports t o prefix ++ report
  pub leads_to : join ≡ state_after t o (prefix ++ more)

-- How it ends. The reason of a fault: so many bytes that 10^12 reads may find no end, the failure of a sink, or lines
-- over the limit.
abbrev pub EndsMore : TableParts → Options → List ℕ → List ℕ → Devices → Devices → State
    → Result (Unit {0}) RunFault → Type 0
EndsMore t o prefix more before after join (Ok x) = TakesMore t o prefix more before after join
EndsMore t o prefix more before after join (Err Read) = most_reads ≤ length more + 1
EndsMore t o prefix more before after join (Err Write) = HasFailed before.failed_writes after.failed_writes
EndsMore t o prefix more before after join (Err Report) = HasFailed before.failed_reports after.failed_reports
EndsMore t o prefix more before after join (Err TooManyLines) = most_lines < length (entries o.packing (prefix ++ more))
EndsMore t o prefix more before after join (Err Memory) = Unit {0}
