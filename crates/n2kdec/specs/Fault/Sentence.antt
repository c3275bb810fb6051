-- What is said of a fault on a terminal, in a line: the file or the stream that it is of, what is wrong, what to do.
use Rattle.std.specs.Prelude.{◌≡◌, ◌==◌, ◌++◌, ◌∷◌, ℕ, false, List, [], Ok, Option, Some, None}
use Rattle.std.specs.Prelude.{codes, decimal, if◌then◌else◌, IfSome, option_and_then, option_map}
use Rattle.std.specs.Option.{unwrap_or}
use Rattle.std.specs.declared.io.Error.{Error}
use Rattle.clap.specs.Words.{Text}
use Rattle.n2kdec.specs.CommandLine.Asked.{save_name}
use Rattle.n2kdec.specs.Fault.Escape.{escaped}
use Rattle.n2kdec.specs.declared.command_line.asked.Command.{Command}
use Rattle.n2kdec.specs.declared.fault.Fault.{Fault}
use Rattle.n2kdec.specs.declared.fault.Fault.TheVariants.{Words, Interface, TableSize, StateSize, Table, State}
use Rattle.n2kdec.specs.declared.fault.Fault.TheVariants.{TableFile, StateFile, Read, Write, Report, Memory, Lines}
use Rattle.n2kdec.specs.declared.fault.Fault.TheVariants.{Save}
use Rattle.n2kdec.specs.declared.run.difference.StateMismatch.TheVariants.{Tables, Windows}
use Rattle.n2kdec.specs.declared.fault.InputFile.TheVariants as reading
use Rattle.n2kdec.specs.declared.save.keeper.SaveError.TheVariants.{Unfound, Failed}

-- ---- what is wrong

-- the system's text for an error, if known
abbrev pub SystemWords : Type 0
SystemWords = Error → Option Text

-- the error that a fault has, of the call that failed
abbrev pub error_of : Fault → Option Error
error_of (TableFile why) = why
error_of (StateFile why) = why
error_of (Read lines why unkept) = why
error_of (Write why) = why
error_of (Save (Unfound error)) = Some error
error_of (Save (Failed error)) = Some error
error_of _ = None

-- The words of the system for the error that a fault has. Which ones a fault without one has, no clause says.
abbrev pub AreWords : SystemWords → Fault → Text → Type 0
AreWords words fault text = IfSome (option_and_then words (error_of fault)) (λ known. text ≡ known)

-- ---- what it is of

-- the files of a command: the table, the state that it goes on from, its log as it is called, the state after it
abbrev pub table_of : Option Command → Option Text
table_of command = option_and_then (λ c. c.files.table) command

abbrev pub state_of : Option Command → Option Text
state_of command = option_and_then (λ c. c.files.state) command

abbrev pub log_of : Option Command → Option Text
log_of command = option_map (λ c. unwrap_or c.files.log (codes "standard input")) command

abbrev pub save_of : Option Command → Option Text
save_of command = option_and_then (λ c. save_name c.task) command

-- The name that was typed, or that of a stream; none if nothing is said.
abbrev pub subject_of : Option Command → Fault → Option Text
subject_of command Words = None
subject_of command Interface = Some (codes "--candump")
subject_of command TableSize = table_of command
subject_of command StateSize = state_of command
subject_of command (Table fault) = table_of command
subject_of command (State fault of) = state_of command
subject_of command (TableFile why) = table_of command
subject_of command (StateFile why) = state_of command
subject_of command (Read lines why unkept) = log_of command
subject_of command (Write why) = Some (codes "standard output")
subject_of command Report = None
subject_of command (Memory None) = Some (codes "the command line")
subject_of command (Memory (Some reading.Table)) = table_of command
subject_of command (Memory (Some reading.State)) = state_of command
subject_of command (Memory (Some reading.Log)) = log_of command
subject_of command Lines = log_of command
subject_of command (Save why) = save_of command

-- ---- the line

-- a name that is empty is seen by its quotes
abbrev pub named : Text → Text
named [] = codes "''"
named (byte ∷ name) = byte ∷ name

-- what was found out of a state's tables, of its windows, and of how far a log was read, if anywhere
abbrev pub tables_text : Text → Text → Text → Text
tables_text saved name id =
    codes " (SHA-256 " ++ saved ++ codes "; that of " ++ named name ++ codes " is " ++ id ++ codes ")"

abbrev pub windows_text : ℕ → ℕ → Text
windows_text saved window = codes " (" ++ decimal saved ++ codes "; this run has " ++ decimal window ++ codes ")"

abbrev pub lines_text : ℕ → Text
lines_text lines = if lines == 0 then [] else codes " (after line " ++ decimal lines ++ codes ")"

abbrev pub cause_text : Option Command → Fault → Text
cause_text command (State fault (Ok (Some (Tables saved id)))) = tables_text saved (unwrap_or (table_of command) []) id
cause_text command (State fault (Ok (Some (Windows saved window)))) = windows_text saved window
cause_text command (Read lines why unkept) = lines_text lines
cause_text command _ = []

-- what is wrong with a subject, what is known of that, and what to do
abbrev pub told_of : Option Command → Text → Text → Fault → Text → Text
told_of command subject words fault advice =
    named subject ++ codes ": " ++ words ++ cause_text command fault ++ advice

abbrev pub line_of : Text → List ℕ
line_of text = codes "n2kdec: " ++ escaped false text ++ codes "\n"

-- this is said of a subject of a fault; of none nothing
abbrev pub IsSaidOf : SystemWords → Option Text → Option Command → Fault → List ℕ → Type 0
IsSaidOf system None command fault text = text ≡ []
IsSaidOf system (Some subject) command fault text =
    (words : Text) × (advice : Text) × AreWords system fault words
    × (text ≡ line_of (told_of command subject words fault advice))

-- The line of a fault. If the state could not be kept after a failed read, the line that says why follows that of the
-- read.
abbrev pub IsLine : SystemWords → Option Command → Fault → List ℕ → Type 0
IsLine system command fault text = IsSaidOf system (subject_of command fault) command fault text

abbrev pub IsSentence : SystemWords → Option Command → Fault → List ℕ → Type 0
IsSentence system command (Read lines why (Some unkept)) text =
    (line next : List ℕ) × IsLine system command (Read lines why (Some unkept)) line
    × IsLine system command (Save unkept) next × (text ≡ line ++ next)
IsSentence system command fault text = IsLine system command fault text
