-- Which states are kept, and why others are not.
use Rattle.std.specs.Prelude.{◌≡◌, ◌⊎◌, ◌&&◌, ◌||◌, List, ℕ, Bool, true, false, Option, Some, None, IfSome, codes}
use Rattle.std.specs.Prelude.{Result, Ok, Err}
use Rattle.std.specs.Option.{unwrap_or}
use Rattle.clap.specs.Words.{Text}
use Rattle.n2k_wire.specs.Steps.{◌>>=◌}
use Rattle.n2kdec.specs.Save.Destination.{destination, leads}
use Rattle.n2kdec.specs.System.Disk.{Acts, Answers, IsError, IsOfMemory, Why}
use Rattle.n2kdec.specs.Save.Replacement.{KeepsText}
use Rattle.n2kdec.specs.declared.command_line.asked.Files.{Files}
use Rattle.n2kdec.specs.declared.save.destination.Kind.{Kind}
use Rattle.n2kdec.specs.declared.save.destination.Kind.TheVariants.{Alone, Special}
use Rattle.n2kdec.specs.declared.save.keeper.SaveError.{SaveError}
use Rattle.n2kdec.specs.declared.save.keeper.SaveError.TheVariants.{Harm, Unfound, Failed}

-- ---- what would be harmed

-- the file and what this path leads to, if one is given, are one regular file or one pipe
abbrev pub meets : Answers → Text → Option Text → Bool
meets a own None = false
meets a own (Some path) = leads true a own path

-- a text that is kept there takes the place of what the file has; to a special file it is appended
abbrev pub replaces : Kind → Bool
replaces Special = false
replaces _ = true

-- A file of this kind is the table, the log or standard error, to which the summary goes later; or standard output, if it
-- is replaced.
abbrev pub meets_files : Answers → Text → Kind → Files → Bool
meets_files a own kind files =
    meets a own files.table || leads true a own (unwrap_or files.log (codes "/dev/stdin"))
    || leads false a own (codes "/dev/stderr") || (replaces kind && leads false a own (codes "/dev/stdout"))

-- Whether a state of this name would harm what is read or printed to: the name's own file is one of these; or the new file
-- is, or is the state to go on from.
unfoldable pub harms : Answers → Text → Files → Result Bool Why
harms a name files = do
  to ← destination a name
  Ok (meets_files a to.target to.kind files || meets_files a to.temp Alone files || meets a to.temp files.state)

-- A state is admitted only if its place is found and nothing would be harmed there. It is refused as Harm only if
-- something would be harmed there, and as Unfound only if the place can't be found out, by this error, or memory is
-- refused.
abbrev pub Admits : {T : Type 0} → Option Answers → Text → Files → Result T SaveError → Type 0
Admits answers name files (Ok done) = IfSome answers (λ a. harms a name files ≡ Ok false)
Admits answers name files (Err Harm) = IfSome answers (λ a. harms a name files ≡ Ok true)
Admits answers name files (Err (Unfound error)) =
    IfSome answers (λ a. IsError (harms a name files) error ⊎ IsOfMemory error)
Admits answers name files (Err (Failed error)) = ⊥

-- the result whether a state of a name may be kept by a run of these files, if known
abbrev pub Admission : Type 0
Admission = Text → Files → Option (Result (Unit {0}) SaveError)

-- a state is kept as a text is, and a failure is the error of that
abbrev pub KeepsState : Option Answers → Acts → Acts → Text → List ℕ → Result (Unit {0}) SaveError → Type 0
KeepsState answers old new name state (Ok kept) = KeepsText answers old new name state (Ok kept)
KeepsState answers old new name state (Err (Failed error)) = KeepsText answers old new name state (Err error)
KeepsState answers old new name state (Err _) = ⊥
