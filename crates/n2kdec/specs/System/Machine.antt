-- What the program meets, and what comes of the words that were typed: the files that they name are read, their command
-- is performed, its state is kept under the name that they have for it, and a fault is reported.
use Rattle.std.specs.Prelude.{◌≡◌, ◌⊎◌, ◌<◌, ◌≤◌, ◌++◌, ℕ, Bool, List, [], ◌∷◌, Option, Some, None}
use Rattle.std.specs.Prelude.{IfSome, IsOkAnd, IsSome, MatchResult, Result, Ok, Err, length, true, false}
use Rattle.std.specs.Option.{unwrap_or}
use Rattle.std.specs.declared.alloc.AllocError.{AllocError}
use Rattle.std.specs.declared.io.Error.{Error}
use Rattle.clap.specs.Words.{Text}
use Rattle.n2k_join.specs.declared.counts.Counts.{Counts}
use Rattle.n2k_run.specs.declared.device.Sink.{Ghosts as OfSink}
use Rattle.n2k_run.specs.Device.{IsWhy}
use Rattle.n2k_run.specs.Runs.{Devices, devices}
use Rattle.n2kdec.specs.CommandLine.Asked.{IsAsked, save_name}
use Rattle.n2kdec.specs.Run.Commands.{IsCutOff, IsWritten, IsWrittenUnlessFailed, SaveAttempt, Performs, Place, place, shelf}
use Rattle.n2kdec.specs.Run.Hint.{has_other_form, hint}
use Rattle.n2kdec.specs.Fault.{exit_status, fault_line, longest_file, status_of, unopened, unread}
use Rattle.n2kdec.specs.Fault.Sentence.{IsSentence, SystemWords}
use Rattle.n2kdec.specs.Save.StateStore.{Admission}
use Rattle.n2kdec.specs.System.Disk.{IsOfMemory}
use Rattle.n2kdec.specs.declared.command_line.asked.ParsedArgs.{ParsedArgs}
use Rattle.n2kdec.specs.declared.command_line.asked.ParsedArgs.TheVariants as to
use Rattle.n2kdec.specs.declared.command_line.asked.Command.{Command}
use Rattle.n2kdec.specs.declared.command_line.asked.Files.{Files}
use Rattle.n2kdec.specs.declared.fault.Fault.{Fault}
use Rattle.n2kdec.specs.declared.fault.Fault.TheVariants.{Words, TableSize, StateSize, Read, Memory, Save, Write}
use Rattle.n2kdec.specs.declared.fault.InputFile.{InputFile}
use Rattle.n2kdec.specs.declared.fault.InputFile.TheVariants as reading
use Rattle.n2kdec.specs.declared.save.keeper.StateStore.{Ghosts as OfKeeper}
use Rattle.n2kdec.specs.declared.save.keeper.SaveError.{SaveError}
use Rattle.n2kdec.specs.declared.system.machine.FileCall.{FileCall}
use Rattle.n2kdec.specs.declared.system.machine.FileCall.TheVariants.{Opened, Closed}
use Rattle.n2kdec.specs.declared.system.machine.OutputStreams.{OutputStreams}

-- ---- what the program meets

-- The words that were typed, the program's name first; the bytes of a file by its name; those of standard input; and
-- whether standard error is a terminal: each if known.
pub record Environment : Type 0 where
  pub typed : Option (List Text)
  pub file : Text → Option (List ℕ)
  pub input : Option (List ℕ)
  pub terminal : Option Bool

-- one of which nothing is known
abbrev pub unknown_world : Environment
unknown_world = record { typed = None; file = λ name. None; input = None; terminal = None }

-- the bytes of the file that is named, or those of standard input
abbrev pub bytes_named : Environment → Option Text → Option (List ℕ)
bytes_named w None = w.input
bytes_named w (Some name) = w.file name

-- The calls by which files were opened and closed, the first one first, if known.
abbrev pub Calls : Type 0
Calls = Option (List FileCall)

-- These more were made. What can't be noted leaves them unknown.
abbrev pub Makes : List FileCall → Calls → Calls → Type 0
Makes made None after = after ≡ None
Makes made (Some had) None = Unit {0}
Makes made (Some had) (Some all) = all ≡ had ++ made

-- a file of this name is opened, or is not, by this error: standard input only if memory is refused
abbrev pub Opens : {T : Type 0} → Option Text → Calls → Calls → Result T Error → Type 0
Opens name before after (Ok file) = Makes (Opened name None ∷ []) before after
Opens name before after (Err error) =
    (IsSome name ⊎ IsOfMemory error) × Makes (Opened name (Some error) ∷ []) before after

-- What the program changes: the output, and why its last call that failed did; the errors; what was to be kept; and the
-- calls of files. Which states may be kept, if known, it does not change.
pub record OutputsView : Type 0 where
  pub output : Place
  pub unwritten : Option Error
  pub errors : Place
  pub kept : Option (List SaveAttempt)
  pub calls : Calls
  pub admits : Admission

abbrev pub outside : {W E K : Type 0} → OfSink W → OfSink E → OfKeeper K → Calls → OutputStreams W E K → OutputsView
outside w e k calls outlets = record {
  output = place (w.contents outlets.output) (w.failed_calls outlets.output);
  unwritten = w.why outlets.output;
  errors = place (e.contents outlets.errors) (e.failed_calls outlets.errors);
  kept = k.kept outlets.keeper;
  calls = calls;
  admits = k.admits;
}

-- ---- the files of a command

-- these are the bytes of the file of this name; none if no file is named
abbrev pub IsOfFile : Environment → Option Text → Option (List ℕ) → Type 0
IsOfFile w None read = read ≡ None
IsOfFile w (Some name) None = ⊥
IsOfFile w (Some name) (Some bytes) = IfSome (w.file name) (λ known. bytes ≡ known)

-- a file was opened and closed again, and no call of it failed
abbrev pub IsTaken : Text → List FileCall → Type 0
IsTaken name made = (reads : ℕ) × (made ≡ Opened (Some name) None ∷ Closed reads None ∷ [])

-- so it was whole, if one is named, and it has not too many bytes, if they are known
abbrev pub IsRead : Environment → Option Text → List FileCall → Type 0
IsRead w None made = made ≡ []
IsRead w (Some name) made = IfSome (w.file name) (λ bytes. length bytes ≤ longest_file) × IsTaken name made

-- what is reported of a file that has too many
abbrev pub too_large : InputFile → Option Fault
too_large reading.Table = Some TableSize
too_large reading.State = Some StateSize
too_large reading.Log = None

-- Why a file that is named is not read whole: it has too many bytes, if they are known; it is not opened, or the
-- last read of it that failed did, by this error; or memory was refused.
abbrev pub IsUnread : Environment → Option Text → InputFile → Fault → List FileCall → Type 0
IsUnread w None read fault made = ⊥
IsUnread w (Some name) read fault made =
    ((too_large read ≡ Some fault) × IfSome (w.file name) (λ bytes. longest_file < length bytes) × IsTaken name made)
    ⊎ ((error : Error) × (fault ≡ unopened read error) × (made ≡ Opened (Some name) (Some error) ∷ []))
    ⊎ ((error : Error) × (fault ≡ unread read (Some error))
    × ((reads : ℕ) × (made ≡ Opened (Some name) None ∷ Closed reads (Some error) ∷ [])))
    ⊎ ((fault ≡ Memory (Some read)) × IsTaken name made)

-- the one or the other
abbrev pub ReadsFile : {T : Type 0} → Environment → Option Text → InputFile → Result T Fault → List FileCall → Type 0
ReadsFile w name read (Ok bytes) made = IsRead w name made
ReadsFile w name read (Err fault) made = IsUnread w name read fault made

-- ---- a command

-- the log's device after the command, which does not use it any more
pub record LogAfter : Type 0 where
  pub left : Option (List ℕ)
  pub calls : ℕ
  pub failed : ℕ

-- the three devices of a command, if those of the output and the errors are in this state
abbrev pub with_log : Option (List ℕ) → ℕ → ℕ → OutputsView → Devices
with_log left calls failed o = devices left calls failed o.output.text o.output.failed o.errors.text o.errors.failed

-- A command's result, where the fault of its log has why the last read of that failed, and the fault of its output why
-- the last write did.
abbrev pub explained : Option Error → Option Error → Result Counts Fault → Result Counts Fault
explained unread unwritten (Err (Read lines why unkept)) = Err (Read lines unread unkept)
explained unread unwritten (Err (Write why)) = Err (Write unwritten)
explained unread unwritten answer = answer

-- the result for the state of a command by a run of its files, if it has a name for one, if known
abbrev pub IsAdmittedSo : Admission → Command → Result (Unit {0}) SaveError → Type 0
IsAdmittedSo admits command answer =
    IfSome (save_name command.task) (λ name. IfSome (admits name command.files) (λ known. answer ≡ known))

-- The command is performed by the bytes of its files, each of which was read and closed before the next was opened,
-- over its log, and its state is kept under the name that it has for it, which was admitted. Of its log and of its
-- output the fault has the error of the last call that failed.
pub record IsPerformed (w : Environment) (command : Command) (before after : OutputsView) (result : Result Counts Fault)
    : Type 0 where
  pub admitted : IsAdmittedSo before.admits command (Ok tt)
  pub table : Option (List ℕ)
  pub is_table : IsOfFile w command.files.table table
  pub of_table : List FileCall
  pub table_read : IsRead w command.files.table of_table
  pub handed : Option (List ℕ)
  pub is_state : IsOfFile w command.files.state handed
  pub of_state : List FileCall
  pub state_read : IsRead w command.files.state of_state
  pub log : LogAfter
  pub why : Option Error
  pub is_why : IsWhy log.failed why
  pub is_why_unwritten : IsWhy after.output.failed after.unwritten
  pub calls : Makes (of_table ++ of_state ++ Opened command.files.log None ∷ Closed log.calls why ∷ []) before.calls
      after.calls
  pub ended : Result Counts Fault
  pub over : Performs command.task (unwrap_or table []) handed (with_log (bytes_named w command.files.log) 0 0 before)
      (with_log log.left log.calls log.failed after) (shelf (save_name command.task) before.kept)
      (shelf (save_name command.task) after.kept) ended
  pub told : result ≡ explained why after.unwritten ended

-- The state may not be kept under the name that the command has for it, for this, and all is as it was.
abbrev pub IsNotAdmitted : Command → OutputsView → OutputsView → Fault → Type 0
IsNotAdmitted command before after fault =
    (why : SaveError) × (fault ≡ Save why) × IsSome (save_name command.task)
    × IsAdmittedSo before.admits command (Err why) × (after ≡ before)

-- the files that are read before one, with these calls
abbrev pub IsReadBefore : Environment → Files → InputFile → List FileCall → Type 0
IsReadBefore w files reading.Table made = made ≡ []
IsReadBefore w files reading.State made = IsRead w files.table made
IsReadBefore w files reading.Log made =
    (of_table of_state : List FileCall) × IsRead w files.table of_table × IsRead w files.state of_state
    × (made ≡ of_table ++ of_state)

-- why one is not, and with which calls: the log is only to be opened
abbrev pub IsNotRead : Environment → Files → InputFile → Fault → List FileCall → Type 0
IsNotRead w files reading.Table fault made = IsUnread w files.table reading.Table fault made
IsNotRead w files reading.State fault made = IsUnread w files.state reading.State fault made
IsNotRead w files reading.Log fault made =
    (error : Error) × (IsSome files.log ⊎ IsOfMemory error) × (fault ≡ unopened reading.Log error)
    × (made ≡ Opened files.log (Some error) ∷ [])

-- It is not begun, though its state is admitted, since a file is not read, and those before it are; and nothing is
-- printed or kept.
pub record IsNotBegun (w : Environment) (command : Command) (before after : OutputsView) (fault : Fault) : Type 0 where
  pub read : InputFile
  pub admitted : IsAdmittedSo before.admits command (Ok tt)
  pub first : List FileCall
  pub before_it : IsReadBefore w command.files read first
  pub last : List FileCall
  pub unread : IsNotRead w command.files read fault last
  pub calls : Makes (first ++ last) before.calls after.calls
  pub else_same : after ≡ record before { calls = after.calls }

-- it is performed; or not begun; or its state is not admitted
abbrev pub RunsCommand : Environment → Command → OutputsView → OutputsView → Result Counts Fault → Type 0
RunsCommand w command before after (Ok counts) = IsPerformed w command before after (Ok counts)
RunsCommand w command before after (Err fault) =
    IsPerformed w command before after (Err fault)
    ⊎ IsNotBegun w command before after fault
    ⊎ IsNotAdmitted command before after fault

-- ---- from the words that were typed to the status

-- what is counted of a text that is printed, which is of no log
abbrev pub no_lines : Counts
no_lines = record { lines = 0; messages = 0; bad = 0; unknown = 0; broken = 0; held = 0 }

-- the text of the help or of the version is printed, or can't be for this
abbrev pub Shows : Text → Place → Place → Option Error → Result Counts Fault → Type 0
Shows text before after why result = MatchResult result
    (λ counts. (counts ≡ no_lines) × IsWritten before after text)
    (λ fault. (fault ≡ Write why) × IsWhy after.failed why × IsCutOff before after text)

-- What is asked for is done. Where that is refused, as an interface that is none is, all is as it was.
abbrev pub DoesAsked : Environment → ParsedArgs → OutputsView → OutputsView → Result Counts Fault → Type 0
DoesAsked w (to.Help text) before after result =
    Shows text before.output after.output after.unwritten result
    × (after ≡ record before { output = after.output; unwritten = after.unwritten })
DoesAsked w (to.Command command) before after result = RunsCommand w command before after result
DoesAsked w (to.Refused fault lines) before after result = (result ≡ Err fault) × (after ≡ before)

-- what was typed asks for this; of words that are no texts nothing is said
abbrev pub AsksFor : Environment → ParsedArgs → Type 0
AsksFor w request =
    ((typed : List Text) × IfSome w.typed (λ known. typed ≡ known) × IsAsked request typed)
    ⊎ ((w.typed ≡ None) × (request ≡ to.Refused Words None))

-- this is whether standard error is a terminal
abbrev pub IsTerminal : Environment → Bool → Type 0
IsTerminal w is_terminal = IfSome w.terminal (λ known. is_terminal ≡ known)

-- the command that was asked for, if one was
abbrev pub command_of : ParsedArgs → Option Command
command_of (to.Command command) = Some command
command_of _ = None

-- what is said of a fault: the lines that are said of refused words, for which memory is not refused, else its sentence
abbrev pub IsToldOf : SystemWords → ParsedArgs → Fault → List ℕ → Type 0
IsToldOf words (to.Refused refused (Some lines)) fault text = IsOkAnd lines (λ lines. text ≡ lines.items)
IsToldOf words request fault text = IsSentence words (command_of request) fault text

-- what is written at a fault: on a terminal the sentence for it, then its line
abbrev pub IsMessageOn : Bool → SystemWords → ParsedArgs → Fault → List ℕ → Type 0
IsMessageOn true words request fault text =
    (told : List ℕ) × IsToldOf words request fault told × (text ≡ told ++ fault_line fault)
IsMessageOn false words request fault text = text ≡ fault_line fault

abbrev pub IsMessage : Environment → SystemWords → ParsedArgs → Fault → List ℕ → Type 0
IsMessage w words request fault text =
    (is_terminal : Bool) × IsTerminal w is_terminal × IsMessageOn is_terminal words request fault text

-- It is written whole, unless the place fails; only if memory is refused, which is returned, the line alone is.
abbrev pub ReportsFault : Environment → SystemWords → ParsedArgs → Fault → Result (Unit {0}) AllocError → Place → Place → Type 0
ReportsFault w words request fault (Ok said) before after =
    (text : List ℕ) × IsMessage w words request fault text × IsWrittenUnlessFailed before after text
ReportsFault w words request fault (Err refused) before after = IsWrittenUnlessFailed before after (fault_line fault)

-- On a terminal this hint is the last text, unless the place fails; off it nothing is said.
abbrev pub HintsOn : Bool → List ℕ → Place → Place → Type 0
HintsOn true hint before after = IsWrittenUnlessFailed before after hint
HintsOn false hint before after = after ≡ before

-- and of no other log anything
abbrev pub Hints : Environment → Bool → List ℕ → Place → Place → Type 0
Hints w true hint before after = (is_terminal : Bool) × IsTerminal w is_terminal × HintsOn is_terminal hint before after
Hints w false hint before after = after ≡ before

-- the status of a result, and what is said of it; memory may be refused for what is said of a fault alone
abbrev pub Concludes : Environment → SystemWords → ParsedArgs → Result Counts Fault → OutputsView → OutputsView → ℕ
    → Result (Unit {0}) AllocError → Type 0
Concludes w words request (Ok counts) before after status said =
    (status ≡ exit_status counts) × (said ≡ Ok tt) × Hints w (has_other_form counts) (hint request) before.errors after.errors
    × (after ≡ record before { errors = after.errors })
Concludes w words request (Err fault) before after status said =
    (status ≡ status_of fault) × ReportsFault w words request fault said before.errors after.errors
    × (after ≡ record before { errors = after.errors })

-- The program: what was typed is done, and the status is that of it.
pub record RunsTyped (w : Environment) (words : SystemWords) (before after : OutputsView) (status : ℕ)
    (said : Result (Unit {0}) AllocError) : Type 0 where
  pub request : ParsedArgs
  pub asks : AsksFor w request
  pub result : Result Counts Fault
  pub done : OutputsView
  pub does : DoesAsked w request before done result
  pub concludes : Concludes w words request result done after status said
