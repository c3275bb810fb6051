-- The line that a fault prints, and the status that the program ends with.
use Rattle.std.specs.Prelude.{ℕ, List, Option, Some, None, codes, ◌==◌, if◌then◌else◌}
use Rattle.std.specs.IoError.{error_kind}
use Rattle.std.specs.declared.io.Error.{Error}
use Rattle.std.specs.declared.io.ErrorKind.{ErrorKind}
use Rattle.std.specs.declared.io.ErrorKind.TheVariants.{OutOfMemory}
use Rattle.n2k_join.specs.declared.counts.Counts.{Counts}
use Rattle.n2k_join.specs.declared.fault.StateFault.{StateFault}
use Rattle.n2k_join.specs.declared.fault.StateFault.TheVariants as state
use Rattle.n2k_run.specs.declared.fault.RunFault.{RunFault}
use Rattle.n2k_run.specs.declared.fault.RunFault.TheVariants as run
use Rattle.n2k_table.specs.declared.fault.TableFault.{TableFault}
use Rattle.n2k_table.specs.declared.fault.TableFault.TheVariants as table
use Rattle.n2kdec.specs.declared.fault.Fault.{Fault}
use Rattle.n2kdec.specs.declared.fault.InputFile.{InputFile}
use Rattle.n2kdec.specs.declared.fault.InputFile.TheVariants as reading
use Rattle.n2kdec.specs.declared.fault.Fault.TheVariants.{Words, Interface, TableSize, StateSize, Table, State}
use Rattle.n2kdec.specs.declared.fault.Fault.TheVariants.{TableFile, StateFile, Read, Write, Report, Memory, Lines}
use Rattle.n2kdec.specs.declared.fault.Fault.TheVariants.{Save}
pub mod Escape
pub mod Reason
pub mod Sentence

-- the most bytes of the file of a table, and of that of a state
abbrev pub longest_file : ℕ
longest_file = 16_777_216

-- the number and the name of a refused table's fault; refused memory has the line that it has everywhere
abbrev pub table_line : TableFault → List ℕ
table_line table.NotToml = codes "n2kdec: table 1 NotToml\n"
table_line table.Format = codes "n2kdec: table 2 Format\n"
table_line table.Key = codes "n2kdec: table 3 Key\n"
table_line table.Range = codes "n2kdec: table 4 Range\n"
table_line table.Text = codes "n2kdec: table 5 Text\n"
table_line table.Twice = codes "n2kdec: table 6 Twice\n"
table_line table.Lookup = codes "n2kdec: table 7 Lookup\n"
table_line table.Mixed = codes "n2kdec: table 8 Mixed\n"
table_line table.TooMany = codes "n2kdec: table 9 TooMany\n"
table_line table.Memory = codes "n2kdec: memory\n"

-- the same of a refused state
abbrev pub state_line : StateFault → List ℕ
state_line state.NotJson = codes "n2kdec: state 1 NotJson\n"
state_line state.Format = codes "n2kdec: state 2 Format\n"
state_line state.Shape = codes "n2kdec: state 3 Shape\n"
state_line state.TableDiffers = codes "n2kdec: state 4 TableDiffers\n"
state_line state.Invalid = codes "n2kdec: state 5 Invalid\n"
state_line state.Memory = codes "n2kdec: memory\n"
state_line state.WindowDiffers = codes "n2kdec: state 7 WindowDiffers\n"

-- the line, with its LF
abbrev pub fault_line : Fault → List ℕ
fault_line Words = codes "n2kdec: words\n"
fault_line Interface = codes "n2kdec: interface\n"
fault_line TableSize = codes "n2kdec: table size\n"
fault_line StateSize = codes "n2kdec: state size\n"
fault_line (Table fault) = table_line fault
fault_line (State fault of) = state_line fault
fault_line (TableFile why) = codes "n2kdec: table file\n"
fault_line (StateFile why) = codes "n2kdec: state file\n"
fault_line (Read lines why unkept) = codes "n2kdec: read\n"
fault_line (Write why) = codes "n2kdec: write\n"
fault_line Report = codes "n2kdec: report\n"
fault_line (Memory read) = codes "n2kdec: memory\n"
fault_line Lines = codes "n2kdec: lines\n"
fault_line (Save why) = codes "n2kdec: save\n"

-- 2 if the arguments, the table or the state are refused, 3 if a file, a device, memory or the limit of lines ended
-- it
abbrev pub status_of : Fault → ℕ
status_of Words = 2
status_of Interface = 2
status_of TableSize = 2
status_of StateSize = 2
status_of (Table table.Memory) = 3
status_of (Table fault) = 2
status_of (State state.Memory of) = 3
status_of (State fault of) = 2
status_of _ = 3

-- what the program says of the fault of a run that took so many lines
abbrev pub fault_of_run : RunFault → ℕ → Fault
fault_of_run run.Read lines = Read lines None None
fault_of_run run.Write lines = Write None
fault_of_run run.Report lines = Report
fault_of_run run.Memory lines = Memory (Some reading.Log)
fault_of_run run.TooManyLines lines = Lines

-- and of a file that can't be read, for this
abbrev pub unread : InputFile → Option Error → Fault
unread reading.Table why = TableFile why
unread reading.State why = StateFile why
unread reading.Log why = Read 0 why None

-- or can't be opened, by this error of this kind
abbrev pub unopened_by : ErrorKind → InputFile → Error → Fault
unopened_by OutOfMemory read error = Memory (Some read)
unopened_by _ read error = unread read (Some error)

abbrev pub unopened : InputFile → Error → Fault
unopened read error = unopened_by (error_kind error) read error

-- 0 if no line was bad
abbrev pub exit_status : Counts → ℕ
exit_status counts = if counts.bad == 0 then 0 else 1
