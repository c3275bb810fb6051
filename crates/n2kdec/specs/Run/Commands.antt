-- What a command leaves on its devices when it comes to its end, and when a fault stops it.
use Rattle.std.specs.Prelude.{◌≡◌, ◌≢◌, ◌⊎◌, ◌+◌, ◌++◌, ◌&&◌, ℕ, Bool, true, false, List, [], ◌∷◌, length, Option, Some}
use Rattle.std.specs.Prelude.{None, IfOk, IfSome, IsSome, Result, Ok, Err, IsOk, MatchResult, Contains}
use Rattle.std.specs.Io.KnownBytes.{Appends, Consumes, IsAtEnd}
use Rattle.n2k_wire.specs.declared.entry.Entry.{Entry}
use Rattle.n2k_table.specs.Table.{TableParts, faults, kind, table as table_of}
use Rattle.n2k_table.specs.declared.fault.TableFault.{TableFault}
use Rattle.n2k_table.specs.declared.fault.TableFault.TheVariants as table
use Rattle.n2k_join.specs.declared.counts.Counts.{Counts}
use Rattle.n2k_join.specs.declared.fault.StateFault.TheVariants as state_faults
use Rattle.n2k_join.specs.Counts.{most_lines}
use Rattle.n2k_join.specs.Messages.{counts}
use Rattle.n2k_join.specs.Saved.{state_text}
use Rattle.n2k_join.specs.State.{State as StateOf, state}
use Rattle.n2k_run.specs.Decoded.{join_fold, out, output_after, reports}
use Rattle.n2k_run.specs.Device.{HasFailed}
use Rattle.n2k_run.specs.Entries.{entries}
use Rattle.n2k_run.specs.FramesOut.{frame_counts_of, frames_output}
use Rattle.n2k_run.specs.Lines.{whole_lines}
use Rattle.n2k_run.specs.Fold.{after_all}
use Rattle.n2k_run.specs.Headline.{save, state_after}
use Rattle.n2k_run.specs.Parts.{IsPrefix, begun}
use Rattle.n2k_run.specs.Plain.{plain_counts_of, plain_output}
use Rattle.n2k_run.specs.Reading.{OutlastsReads}
use Rattle.n2k_run.specs.Reports.{summary_text}
use Rattle.n2k_run.specs.Runs.{AreNumbered, Devices, HasPrefixes, NoneFailed, Output, ReadFails, ReportFails}
use Rattle.n2k_run.specs.Runs.{ReportsFirst, WriteFails, output_from}
use Rattle.n2k_run.specs.Writing.{AppendsPrefix}
use Rattle.n2k_run.specs.declared.options.Options.{Options}
use Rattle.n2k_run.specs.declared.fault.RunFault.{RunFault}
use Rattle.n2k_run.specs.declared.fault.RunFault.TheVariants as run
use Rattle.n2k_encode_run.specs.Encodes.{Encodes}
use Rattle.n2kdec.specs.Run.Difference.{Differs}
use Rattle.n2kdec.specs.Fault.{fault_of_run}
use Rattle.n2kdec.specs.declared.command_line.asked.Subcommand.{Subcommand}
use Rattle.n2kdec.specs.declared.command_line.asked.Subcommand.TheVariants.{Plain, Decode, Frames, Encode}
use Rattle.n2kdec.specs.declared.fault.Fault.{Fault}
use Rattle.n2kdec.specs.declared.fault.Fault.TheVariants.{Table, State, Read, Write, Report, Memory, Lines, Save}
use Rattle.n2kdec.specs.declared.fault.InputFile.TheVariants.{Log}
use Rattle.n2kdec.specs.declared.save.keeper.SaveError.{SaveError}

-- ---- what a command does

-- A place that texts go to, as contracts see it: what it has, if known, and how many of its calls have
-- failed.
pub record Place : Type 0 where
  pub text : Option (List ℕ)
  pub failed : ℕ

abbrev pub place : Option (List ℕ) → ℕ → Place
place text failed = record { text = text; failed = failed }

-- the text is written to the place whole, by calls of which none failed
pub record IsWritten (before after : Place) (text : List ℕ) : Type 0 where
  pub written : Appends before.text after.text text
  pub none_failed : after.failed ≡ before.failed

-- the place failed, and a prefix of the text is written
pub record IsCutOff (before after : Place) (text : List ℕ) : Type 0 where
  pub failed : HasFailed before.failed after.failed
  pub prefix : AppendsPrefix before.text after.text text

-- the one or the other
abbrev pub IsWrittenUnlessFailed : Place → Place → List ℕ → Type 0
IsWrittenUnlessFailed before after text = IsWritten before after text ⊎ IsCutOff before after text

-- A text that was to be kept: its name, what the errors contained then, where the keeper notes it, and why it could not be
-- kept, or not for sure, if so.
pub record SaveAttempt : Type 0 where
  pub name : List ℕ
  pub text : List ℕ
  pub said : Option (List ℕ)
  pub unkept : Option SaveError

-- This text was to be kept under the name, once, and no other was, while the errors held so much, and it could not for
-- this, or could; without a name none was. What a keeper can't keep it may be unable to note.
abbrev pub Keeps : Option (List ℕ) → Option (List SaveAttempt) → Option (List SaveAttempt) → List ℕ → Option (List ℕ) → Option SaveError
    → Type 0
Keeps None before after text held unkept = (unkept ≡ None) × (after ≡ before)
Keeps (Some name) None after text held unkept = Unit {0}
Keeps (Some name) (Some had) None text held unkept = IsSome unkept
Keeps (Some name) (Some had) (Some all) text held unkept =
    (said : Option (List ℕ)) × IfSome said (λ noted. held ≡ Some noted)
    × (all ≡ had ++ record { name = name; text = text; said = said; unkept = unkept } ∷ [])

-- What keeps a state: the name that the state is to have, if any; and the texts that were to be kept, the first one
-- first, if known.
pub record StoreView : Type 0 where
  pub name : Option (List ℕ)
  pub kept : Option (List SaveAttempt)

abbrev pub shelf : Option (List ℕ) → Option (List SaveAttempt) → StoreView
shelf name kept = record { name = name; kept = kept }

-- the state that is saved after entries, and what keeps it, before the command and after it
pub record Saving : Type 0 where
  pub state : List Entry → List ℕ
  pub before : StoreView
  pub after : StoreView

-- this text alone is kept, under the name, while the errors hold so much, or can't be for this
abbrev pub Replaces : StoreView → StoreView → List ℕ → Option (List ℕ) → Option SaveError → Type 0
Replaces before after text held unkept = Keeps before.name before.kept after.kept text held unkept

-- when the errors have gained this report, and no more: the summary comes after it
abbrev pub ReplacesAfter : StoreView → StoreView → List ℕ → Option (List ℕ) → List ℕ → Option SaveError → Type 0
ReplacesAfter before after text had report unkept =
    (held : Option (List ℕ)) × Appends had held report × Replaces before after text held unkept

-- the place is as it was
abbrev pub IsUntouched : Saving → Type 0
IsUntouched s = s.after ≡ s.before

-- what a command prints and reports of the entries of its log, what it counts, what it saves, and whether it sums up
-- what it has read when a failed read or the limit of lines ends it
pub record Effect : Type 0 where
  pub output : Output
  pub counts : List Entry → Counts
  pub saving : Saving
  pub sums_up_a_part : Bool

-- one that has no state
abbrev pub whole_effect : Output → (List Entry → Counts) → Effect
whole_effect output counts = record {
  output = output;
  counts = counts;
  saving = record { state = λ es. []; before = shelf None None; after = shelf None None };
  sums_up_a_part = false;
}

-- one that comes to this state with entries, and saves it from the one place to the other
abbrev pub decode_to : Output → (List Entry → StateOf) → StoreView → StoreView → Effect
decode_to output stands_at before after = record {
  output = output;
  counts = λ es. (stands_at es).counts;
  saving = record { state = λ es. state_text (stands_at es); before = before; after = after };
  sums_up_a_part = true;
}

-- after the entries of a log's prefix, of which the state was handed in: from a log's beginning there are none
abbrev pub decode_effect : TableParts → Options → List Entry → StoreView → StoreView → Effect
decode_effect t options prefix before after =
    decode_to (output_after t options prefix) (λ es. state t.id options.window (kind t) (prefix ++ es)) before after

-- from a state on, whether or not a log leads to it
abbrev pub decode_from : TableParts → Options → StateOf → StoreView → StoreView → Effect
decode_from t options s before after =
    let fold = join_fold t options.empty in
    decode_to (output_from fold options.packing s) (after_all fold s) before after

-- the entries of a log, as a command reads it
abbrev pub entries_for : Effect → List ℕ → List Entry
entries_for c log = entries c.output.packing log

-- the state after these entries is kept, after their reports and before their summary; or can't be for this
abbrev pub IsSaved : Effect → Devices → Option SaveError → List Entry → Type 0
IsSaved c before unkept es =
    ReplacesAfter c.saving.before c.saving.after (c.saving.state es) before.reported (c.output.reports es) unkept

-- The command came to its end: bytes came until the log had no more. Their lines have numbers that are counted, the
-- output has gained what is printed of them, the errors their reports and then their summary, these are their counts, no
-- device failed, and the state after them is saved by calls of which none failed. Where the log's bytes are known, these
-- are all that it had.
pub record IsDone (c : Effect) (before after : Devices) (counts : Counts) : Type 0 where
  pub came : List ℕ
  pub given : Consumes before.left after.left came
  pub at_end : IsAtEnd after.left
  pub numbered : AreNumbered c.output.counted (entries_for c came)
  pub text : Appends before.written after.written (c.output.texts (entries_for c came))
  pub report : Appends before.reported after.reported
      (c.output.reports (entries_for c came) ++ summary_text (c.counts (entries_for c came)))
  pub counted : counts ≡ c.counts (entries_for c came)
  pub none_failed : NoneFailed before after
  pub saved : IsSaved c before None (entries_for c came)

-- A command has printed and reported these entries, which have numbers that are counted. No call of the errors failed
-- until then, and then they have of the summary what `summed` says.
pub record HasTaken (c : Effect) (before after : Devices) (es : List Entry) (summed : Place → Place → List ℕ → Type 0)
    : Type 0 where
  -- what the errors held before the summary
  pub errors : Option (List ℕ)
  pub numbered : AreNumbered c.output.counted es
  pub text : Appends before.written after.written (c.output.texts es)
  pub report : Appends before.reported errors (c.output.reports es)
  pub summary : summed (place errors before.failed_reports) (place after.reported after.failed_reports)
      (summary_text (c.counts es))

-- Bytes came until the log had no more, and all their entries are taken. `closed` says what became of the state after
-- them.
pub record HasTakenAll (c : Effect) (before after : Devices) (summed : Place → Place → List ℕ → Type 0)
    (closed : List Entry → Type 0) : Type 0 where
  pub came : List ℕ
  pub given : Consumes before.left after.left came
  pub at_end : IsAtEnd after.left
  pub taken : HasTaken c before after (entries_for c came) summed
  pub closing : closed (entries_for c came)

-- what is written of a part's summary: all of it, unless the errors fail; or nothing
abbrev pub SumsUpPart : Bool → Place → Place → List ℕ → Type 0
SumsUpPart true before after summary = IsWrittenUnlessFailed before after summary
SumsUpPart false before after summary = after ≡ before

-- Bytes came of the log, and the lines among them whose line feed came are taken: so many are counted with them. The
-- state after them is saved, or can't be for this.
pub record HasRead (c : Effect) (lines : ℕ) (unkept : Option SaveError) (before after : Devices) : Type 0 where
  pub came : List ℕ
  pub given : Consumes before.left after.left came
  pub counted : lines ≡ (c.counts (entries_for c (whole_lines came))).lines
  pub taken : HasTaken c before after (entries_for c (whole_lines came)) (SumsUpPart c.sums_up_a_part)
  pub saved : IsSaved c before unkept (entries_for c (whole_lines came))

-- The line limit is reached, and the log, if its bytes are known, has further lines. Nothing is saved.
pub record IsFull (c : Effect) (before after : Devices) : Type 0 where
  pub lines : List Entry
  pub full : c.output.counted + length lines ≡ most_lines
  pub more : IfSome before.left
      (λ log. (next : Entry) × (rest : List Entry) × (entries_for c log ≡ lines ++ next ∷ rest))
  pub taken : HasTaken c before after lines (SumsUpPart c.sums_up_a_part)
  pub unsaved : IsUntouched c.saving

-- Nothing is saved and nothing is summed up, and fronts are written of what is printed and reported.
abbrev pub BreaksOff : Effect → Devices → Devices → Type 0
BreaksOff c before after = IsUntouched c.saving × IfSome before.left (HasPrefixes c.output before after)

-- What each fault leaves. Read: the lines that came are taken. Lines: as many as are counted are. Save: the log is
-- taken. In these three the summary, if one is written, is cut off only if the errors failed. After Write and
-- Memory, which is that of the log, the run breaks off; after Report too, or all but the summary is done. So memory is
-- not refused once something is saved or summed up. No other fault stops a run.
abbrev pub Leaves : Effect → Devices → Devices → Fault → Type 0
Leaves c before after (Read lines why unkept) = HasRead c lines unkept before after
Leaves c before after Lines = IsFull c before after
Leaves c before after (Save why) = HasTakenAll c before after IsWrittenUnlessFailed (IsSaved c before (Some why))
Leaves c before after (Write why) = BreaksOff c before after
Leaves c before after Report = BreaksOff c before after ⊎ HasTakenAll c before after IsCutOff (IsSaved c before None)
Leaves c before after (Memory read) = (read ≡ Some Log) × BreaksOff c before after
Leaves c before after _ = ⊥

-- no call of the log's device failed, and none of the output
pub record LogAndOutputHold (before after : Devices) : Type 0 where
  pub reads : after.failed_reads ≡ before.failed_reads
  pub writes : after.failed_writes ≡ before.failed_writes

-- Which device failed. Read: the log's, or none and 10^12 reads found no end. Write, Report: that one alone. Lines and
-- Save: none. Memory: none; or, if parts are summed up, as for Read, and
-- memory was refused for the state of what had been read. After Read, Lines and Save the errors may have failed too, in
-- the summary.
abbrev pub HasDevice : Effect → Devices → Devices → Fault → Type 0
HasDevice c before after (Read lines why unkept) =
    (HasFailed before.failed_reads after.failed_reads
    ⊎ (OutlastsReads before.calls after.calls × (after.failed_reads ≡ before.failed_reads)))
    × (after.failed_writes ≡ before.failed_writes)
HasDevice c before after Lines = LogAndOutputHold before after
HasDevice c before after (Save why) = LogAndOutputHold before after
HasDevice c before after (Write why) = WriteFails before after
HasDevice c before after Report = ReportFails before after
HasDevice c before after (Memory read) = NoneFailed before after ⊎ ((c.sums_up_a_part ≡ true) × ReadFails before after)
HasDevice c before after _ = ⊥

-- A fault stopped the command. No text precedes the report of its own line or of an earlier one.
pub record IsStopped (c : Effect) (before after : Devices) (fault : Fault) : Type 0 where
  pub leaves : Leaves c before after fault
  pub device : HasDevice c before after fault
  pub reports_first : IfSome before.left (ReportsFirst c.output before after)

-- how a command ends whose table and state are taken
abbrev pub Ends : Effect → Devices → Devices → Result Counts Fault → Type 0
Ends c before after result = MatchResult result (IsDone c before after) (IsStopped c before after)

-- ---- what is refused before a command begins

-- the table or the state is refused
abbrev pub IsRefusal : Fault → Type 0
IsRefusal (Table fault) = Unit {0}
IsRefusal (State fault of) = Unit {0}
IsRefusal _ = ⊥

-- A refused table has the fault, or memory was wanted; a refused state is handed in with a table that has none, its
-- first fault is answered, or memory was wanted, and what it is of. Where another fault is, both are taken.
abbrev pub IsJudged : List TableFault → TableParts → Options → Option (List ℕ) → Fault → Type 0
IsJudged found t o handed (Table fault) = fault ≢ table.Memory → Contains found fault
IsJudged found t o handed (State fault of) =
    (found ≡ []) × IsSome handed × (fault ≢ state_faults.Memory → begun t o handed ≡ Err fault)
    × Differs t.id o handed fault of
IsJudged found t o handed fault = (found ≡ []) × IsOk (begun t o handed)

-- The table is refused, by its fault or because memory is refused, and no device is touched; or it has no fault, and
-- this holds.
abbrev pub ByTable : List TableFault → Devices → Devices → Result Counts Fault → Type 0 → Type 0
ByTable found before after (Err (Table fault)) P = (fault ≢ table.Memory → Contains found fault) × (after ≡ before)
ByTable found before after result P = (found ≡ []) × P

-- how a command ends whose state is taken, if its table is
abbrev pub EndsUnlessRefused : Effect → Devices → Devices → Result Counts Fault → Type 0
EndsUnlessRefused c before after (Err (Table fault)) = Unit {0}
EndsUnlessRefused c before after (Err (State fault of)) = fault ≡ state_faults.Memory
EndsUnlessRefused c before after (Err fault) = IsStopped c before after fault
EndsUnlessRefused c before after (Ok counts) = IsDone c before after counts

-- ---- the headline of a log in parts

-- After this prefix of a log and `more`, the whole is there: what is printed is exactly what the output and the reports of
-- both have after those of the prefix, then the summary of both; the counts are those of both, and their state is saved,
-- from which the log can go on.
pub record PrintsRest (t : TableParts) (o : Options) (prefix more : List ℕ) (before after : Devices)
    (keeper kept : StoreView) (counted : Counts) : Type 0 where
  pub text : List ℕ
  pub printed : Appends before.written after.written text
  pub output : out t o (prefix ++ more) ≡ out t o prefix ++ text
  pub report : List ℕ
  pub reported : Appends before.reported after.reported
      (report ++ summary_text (counts o.window (kind t) (entries o.packing (prefix ++ more))))
  pub told : reports t o (prefix ++ more) ≡ reports t o prefix ++ report
  pub answered : counted ≡ counts o.window (kind t) (entries o.packing (prefix ++ more))
  pub saved : ReplacesAfter keeper kept (save t o (prefix ++ more)) before.reported report None
  pub reads_back : begun t o (Some (save t o (prefix ++ more))) ≡ Ok (state_after t o (prefix ++ more))

-- ---- the run of `encode`

-- the summary of these counts is written, and they are returned; or standard error failed in the summary
abbrev pub SumsUp : Place → Place → Counts → Result Counts Fault → Type 0
SumsUp before after counts result = MatchResult result
    (λ summed. IsWritten before after (summary_text counts) × (summed ≡ counts))
    (λ fault. (fault ≡ Report) × IsCutOff before after (summary_text counts))

-- a run that this fault ended has taken whole lines
abbrev pub is_at_line : RunFault → Bool
is_at_line run.Read = true
is_at_line run.TooManyLines = true
is_at_line _ = false

-- After the run of a log the summary follows; after a fault only if parts are summed up and whole lines were taken.
abbrev pub ClosesRun : Bool → Place → Place → Counts → Result (Unit {0}) RunFault → Result Counts Fault → Type 0
ClosesRun parts errors summed counts (Ok ended) result = SumsUp errors summed counts result
ClosesRun parts errors summed counts (Err fault) result =
    (result ≡ Err (fault_of_run fault counts.lines))
    × SumsUpPart (parts && is_at_line fault) errors summed (summary_text counts)

-- `errors` and `counts` are standard error and the counts after the run of `encode`; then the summary is written, or the
-- fault is returned.
pub record EncodesLog (t : TableParts) (nearest : Bool) (before after : Devices) (result : Result Counts Fault)
    : Type 0 where
  pub errors : Place
  pub counts : Counts
  pub ended : Result (Unit {0}) RunFault
  pub runs : Encodes t nearest before (record after { reported = errors.text; failed_reports = errors.failed }) counts
      ended
  pub closes : ClosesRun false errors (place after.reported after.failed_reports) counts ended result

-- ---- by the command

-- How `decode` ends, given the bytes of a table, options, and a state to resume.
pub record Decodes (bytes : List ℕ) (o : Options) (handed : Option (List ℕ)) (before after : Devices)
    (keeper kept : StoreView) (result : Result Counts Fault) : Type 0 where
  -- The table and the state are accepted, or refused for their content or because memory is refused.
  pub judged : MatchResult result (λ counted. (faults bytes ≡ []) × IsOk (begun (table_of bytes) o handed))
      (IsJudged (faults bytes) (table_of bytes) o handed)
  -- From any accepted state: the result of the steps of the log's entries, in order.
  pub steps : (s : StateOf) → begun (table_of bytes) o handed ≡ Ok s
      → EndsUnlessRefused (decode_from (table_of bytes) o s keeper kept) before after result
  -- From the state after these entries (from the beginning of a log, if there are none): what the whole log says of the
  -- lines after them.
  pub log : (prefix : List Entry)
      → begun (table_of bytes) o handed ≡ Ok (state (table_of bytes).id o.window (kind (table_of bytes)) prefix)
      → EndsUnlessRefused (decode_effect (table_of bytes) o prefix keeper kept) before after result
  -- The headline: if the state of this prefix of a log is resumed, exactly the rest of the whole log's output is printed,
  -- and the state of the whole is saved.
  pub headline : (prefix : List ℕ) → IsPrefix (table_of bytes) o prefix handed
      → IfOk result (λ counted. IfSome before.left
      (λ more. PrintsRest (table_of bytes) o prefix more before after keeper kept counted))

-- How a command ends, and what it saves. A command without a state leaves the saved one unchanged.
abbrev pub Performs : Subcommand → List ℕ → Option (List ℕ) → Devices → Devices → StoreView → StoreView → Result Counts Fault → Type 0
Performs Plain bytes handed before after keeper kept result =
    (kept ≡ keeper) × Ends (whole_effect plain_output plain_counts_of) before after result
Performs (Decode o save) bytes handed before after keeper kept result =
    Decodes bytes o handed before after keeper kept result
Performs (Frames interface) bytes handed before after keeper kept result =
    let t = table_of bytes in (kept ≡ keeper) × ByTable (faults bytes) before after result
    (Ends (whole_effect (frames_output t interface) (frame_counts_of (kind t) interface)) before after result)
Performs (Encode nearest) bytes handed before after keeper kept result =
    (kept ≡ keeper) × ByTable (faults bytes) before after result (EncodesLog (table_of bytes) nearest before after result)
