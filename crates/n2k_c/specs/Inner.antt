-- What the parts of the calls answer: for private clauses.
use Rattle.std.specs.Prelude.{◌≡◌, ◌<◌, ◌≤◌, ◌+◌, ℕ, true, false, List, ◌++◌, length, Option, Some, None, IsSome, Result, Ok, Err}
use Rattle.std.specs.List.{Contains}
use Rattle.n2k_table.specs.Table.{TableParts, faults}
use Rattle.n2k_table.specs.declared.fault.TableFault.{TableFault}
use Rattle.n2k_table.specs.declared.fault.TableFault.TheVariants as of_table
use Rattle.n2k_join.specs.Counts.{most_lines}
use Rattle.n2k_join.specs.declared.fault.StateFault.{StateFault}
use Rattle.n2k_join.specs.declared.fault.StateFault.TheVariants as of_state
use Rattle.n2k_run.specs.declared.fault.RunFault.{RunFault}
use Rattle.n2k_run.specs.declared.fault.RunFault.TheVariants as of_run
use Rattle.n2k_run.specs.declared.options.Options.{Options}
use Rattle.n2k_run.specs.Headline.{save}
use Rattle.n2k_run.specs.Lines.{lines}
use Rattle.n2k_run.specs.Reading.{most_reads}
use Rattle.n2k_c.specs.declared.decoder.Decoder.{Decoder}
use Rattle.n2k_c.specs.declared.refusal.Refusal.{Refusal}
use Rattle.n2k_c.specs.declared.refusal.Refusal.TheVariants.{Memory, TooMuch, Closed, Encoder, Table, State}
use Rattle.n2k_c.specs.declared.work.Work.{Work}
use Rattle.n2k_c.specs.Job.{AreReports, IsDecoding, IsOutput, Job, decoding}
use Rattle.n2k_c.specs.Stands.{HasTaken, IsAfter, is_encoder}

-- the refusal of each fault: refused memory is one, wherever it comes from
abbrev pub refusal_of_table : TableFault → Refusal
refusal_of_table of_table.Memory = Memory
refusal_of_table fault = Table fault

abbrev pub refusal_of_state : StateFault → Refusal
refusal_of_state of_state.Memory = Memory
refusal_of_state fault = State fault

-- the sinks are in memory, so that they fail if memory is refused
abbrev pub refusal_of_run : RunFault → Refusal
refusal_of_run of_run.Read = TooMuch
refusal_of_run of_run.TooManyLines = TooMuch
refusal_of_run _ = Memory

-- why no table was read
abbrev pub NotRead : List ℕ → Refusal → Type 0
NotRead toml Memory = Unit {0}
NotRead toml (Table fault) = Contains (faults toml) fault
NotRead toml _ = ⊥

-- one is open, and this is its table
abbrev pub IsTableOf : Option Decoder → TableParts → Type 0
IsTableOf kept t = (d : Decoder) × (kept ≡ Some d) × (t ≡ d.table.value)

-- why its table was not shared
abbrev pub NotShared : Option Decoder → Refusal → Type 0
NotShared kept Closed = kept ≡ None
NotShared kept Memory = IsSome kept
NotShared kept _ = ⊥

-- More lines were taken: the texts that were added to what waits are the rest of the output and of the reports.
pub record Gains (t : TableParts) (job : Job) (taken more : List ℕ) (work : Work)
    (output output' waiting waiting' : List ℕ) : Type 0 where
  pub leads_to : IsAfter t job (taken ++ more) work
  pub text : List ℕ
  pub printed : output' ≡ output ++ text
  pub output_is : (before : List ℕ) → IsOutput t job taken before → IsOutput t job (taken ++ more) (before ++ text)
  pub report : List ℕ
  pub reported : waiting' ≡ waiting ++ report
  pub reports_are : (before : List ℕ) → AreReports t job taken before
      → AreReports t job (taken ++ more) (before ++ report)

-- How taking more lines ends.
abbrev pub RunsMore : TableParts → Job → List ℕ → List ℕ → Work → List ℕ → List ℕ → List ℕ → List ℕ
    → Result (Unit {0}) RunFault → Type 0
RunsMore t job taken more work output output' waiting waiting' (Ok x) =
    Gains t job taken more work output output' waiting waiting'
RunsMore t job taken more work output output' waiting waiting' (Err of_run.TooManyLines) =
    most_lines < length (lines (taken ++ more))
RunsMore t job taken more work output output' waiting waiting' (Err of_run.Read) =
    IsDecoding job × (most_reads ≤ length more + 1)
RunsMore t job taken more work output output' waiting waiting' (Err _) = Unit {0}

-- The line that is cut was taken as it is, after these bytes.
abbrev pub RunsCut : TableParts → Job → List ℕ → List ℕ → List ℕ → Decoder → Decoder
    → Result (Unit {0}) RunFault → Type 0
RunsCut t job taken printed reported old new (Ok x) = HasTaken t job (taken ++ old.cut.items) printed reported new
RunsCut t job taken printed reported old new (Err of_run.TooManyLines) =
    most_lines < length (lines (taken ++ old.cut.items))
RunsCut t job taken printed reported old new (Err of_run.Read) =
    IsDecoding job × (most_reads ≤ length old.cut.items + 1)
RunsCut t job taken printed reported old new (Err _) = Unit {0}

-- the work decodes, and this is the state that it is in
pub record IsSavedOf (text : List ℕ) (work : Work) : Type 0 where
  pub decodes : is_encoder work ≡ false
  pub is : (t : TableParts) (o : Options) (taken : List ℕ) → IsAfter t (decoding o) taken work → text ≡ save t o taken

-- why there is no state
abbrev pub NotSavedOf : Work → Refusal → Type 0
NotSavedOf work Memory = Unit {0}
NotSavedOf work Encoder = is_encoder work ≡ true
NotSavedOf work _ = ⊥
