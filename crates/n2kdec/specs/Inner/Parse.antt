-- What is answered on a parse that failed.
use Rattle.std.specs.Prelude.{◌≡◌, ◌≢◌, ◌⊎◌, Option, None, IfSome}
use Rattle.clap.specs.Words.{Text}
use Rattle.clap.specs.declared.error.kind.ErrorKind.{ErrorKind}
use Rattle.clap.specs.declared.error.kind.ErrorKind.TheVariants.{DisplayHelp, DisplayVersion, OutOfMemory}
use Rattle.n2kdec.specs.declared.command_line.asked.ParsedArgs.{ParsedArgs}
use Rattle.n2kdec.specs.declared.command_line.asked.ParsedArgs.TheVariants.{Help, Command, Refused}
use Rattle.n2kdec.specs.declared.fault.Fault.TheVariants as fault
use Rattle.n2kdec.specs.CommandLine.Asked.{HasLines}
use Rattle.n2kdec.specs.CommandLine.Words.{version_text}

-- By its kind, and by the text that it shows, if known: a request for help, which gets that text, or for the
-- version, or a fault.
abbrev pub AnswersKind : ErrorKind → Option Text → ParsedArgs → Type 0
AnswersKind kind shown (Help text) =
    ((kind ≡ DisplayHelp) × IfSome shown (λ help. text ≡ help)) ⊎ ((kind ≡ DisplayVersion) × (text ≡ version_text))
AnswersKind kind shown (Command command) = ⊥
AnswersKind kind shown (Refused fault.Words lines) =
    (kind ≢ DisplayHelp) × (kind ≢ DisplayVersion) × (kind ≢ OutOfMemory)
    × HasLines fault.Words shown lines
AnswersKind kind shown (Refused (fault.Memory read) lines) = (read ≡ None) × (lines ≡ None)
AnswersKind kind shown (Refused _ lines) = ⊥
