-- What words ask for: a text, or a command over files.
use Rattle.std.specs.Prelude.{◌≡◌, ◌≢◌, ◌⊎◌, ◌++◌, ℕ, List, [], ◌∷◌, Option, Some, None, Result, Ok, Err, IfOk, IfSome}
use Rattle.std.specs.Prelude.{Vec, codes, true}
use Rattle.std.specs.Str.{trim_end}
use Rattle.std.specs.declared.alloc.AllocError.{AllocError}
use Rattle.std.specs.declared.alloc.Global.{Global}
use Rattle.clap.specs.Words.{IsAmong, Kinds, Text, fault_of, subcommand_of, subcommand_rows_of}
use Rattle.clap.specs.declared.error.kind.ErrorKind.{ErrorKind}
use Rattle.clap.specs.declared.error.kind.ErrorKind.TheVariants.{DisplayHelp, DisplayVersion}
use Rattle.clap.specs.declared.parser.matches.ArgMatches.{ArgMatches}
use Rattle.n2kdec.specs.declared.command_line.asked.Command.{Command}
use Rattle.n2kdec.specs.declared.command_line.asked.ParsedArgs.{ParsedArgs}
use Rattle.n2kdec.specs.declared.command_line.asked.ParsedArgs.TheVariants as to
use Rattle.n2kdec.specs.declared.command_line.asked.Subcommand.{Subcommand}
use Rattle.n2kdec.specs.declared.command_line.asked.Subcommand.TheVariants.{Decode}
use Rattle.n2kdec.specs.declared.fault.Fault.{Fault}
use Rattle.n2kdec.specs.declared.fault.Fault.TheVariants.{Interface, Memory, Words}
use Rattle.n2kdec.specs.declared.command_line.TheConstants.{NO_WINDOW}
use Rattle.n2kdec.specs.Fault.Escape.{escaped}
use Rattle.n2kdec.specs.CommandLine.Usage.{program_app}
use Rattle.n2kdec.specs.CommandLine.Words.{command_of, version_text}

-- the name of the file of the state after the log
abbrev pub save_name : Subcommand → Option Text
save_name (Decode options save) = save
save_name _ = None

-- the arguments have no fault, and these are their matches
abbrev pub AreMatchesOf : List Text → ArgMatches → Type 0
AreMatchesOf words matches =
    (fault_of program_app words ≡ []) × (subcommand_rows_of matches ≡ subcommand_of program_app words)

-- `clap` has a fault at the arguments that is not a request for help or for the version
abbrev pub HasFault : List Text → Type 0
HasFault words =
    (kind : ErrorKind) × IsAmong kind (fault_of program_app words) × (kind ≢ DisplayHelp) × (kind ≢ DisplayVersion)

-- `clap` has no fault at the words, and this comes of them
abbrev pub Gives : List Text → Result Command Fault → Type 0
Gives words result = (fault_of program_app words ≡ []) × (command_of words ≡ result)

-- Why nothing is done: the words are not those of a command, their interface is none, or memory was refused.
abbrev pub IsUnasked : Fault → List Text → Type 0
IsUnasked Words words = HasFault words ⊎ Gives words (Err Words)
IsUnasked Interface words = Gives words (Err Interface)
IsUnasked (Memory read) words = read ≡ None
IsUnasked _ words = ⊥

-- a text for arguments that ask for help, or the version if they ask for that
abbrev pub IsHelp : Text → List Text → Type 0
IsHelp text words =
    IsAmong DisplayHelp (fault_of program_app words)
    ⊎ (IsAmong DisplayVersion (fault_of program_app words) × (text ≡ version_text))

-- what is said of arguments that are refused although `clap` has no fault at them; otherwise `clap` says it
abbrev pub said_at : Kinds → Option Text
said_at [] = Some NO_WINDOW.now
said_at (_ ∷ _) = None

-- This is what is said, in whole lines, if known: the white space at its end is left out, and its control
-- characters are escaped, but for line feeds.
abbrev pub AreLinesOf : Option Text → List ℕ → Type 0
AreLinesOf known lines =
    (said : Text) × IfSome known (λ text. said ≡ trim_end text) × (lines ≡ escaped true said ++ codes "\n")

-- Of refused words these lines are said, in which control characters are escaped, unless memory for them is refused; of
-- other faults none.
abbrev pub HasLines : Fault → Option Text → Option (Result (Vec ℕ Global) AllocError) → Type 0
HasLines Words known (Some lines) = IfOk lines (λ lines. AreLinesOf known lines.items)
HasLines Words known None = ⊥
HasLines _ known lines = lines ≡ None

-- What these arguments ask for: a text, the command that they name, or a fault.
abbrev pub IsAsked : ParsedArgs → List Text → Type 0
IsAsked (to.Help text) words = IsHelp text words
IsAsked (to.Command command) words = Gives words (Ok command)
IsAsked (to.Refused fault lines) words =
    IsUnasked fault words × HasLines fault (said_at (fault_of program_app words)) lines
