-- What a machine in memory has.
use Rattle.std.specs.Prelude.{ℕ, List, [], ◌∷◌, Option, Some, None, codes, if◌then◌else◌, ◌==◌}
use Rattle.std.specs.Borrow.{Bor}
use Rattle.std.specs.Str.{bytes_eq}
use Rattle.std.specs.declared.io.Error.{Error}
use Rattle.std.specs.declared.io.ErrorKind.{ErrorKind}
use Rattle.std.specs.declared.io.ErrorKind.TheVariants.{NotFound}
use Rattle.clap.specs.Words.{Text}
use Rattle.n2kdec.specs.Run.Commands.{SaveAttempt}

-- the bytes of the first file of this name
abbrev pub bytes_under : Text → List (Bor Text × Bor (List ℕ)) → Option (List ℕ)
bytes_under name [] = None
bytes_under name (file ∷ files) = if bytes_eq file.0.now name then Some file.1.now else bytes_under name files

-- a text that was kept under a name; what the errors held then is not noted
abbrev pub kept_text : Text → List ℕ → SaveAttempt
kept_text name text = record { name = name; text = text; said = None; unkept = None }

-- why the last of so many failed calls did
abbrev pub why_of : ℕ → Error → Option Error
why_of failed error = if failed == 0 then None else Some error

-- what is said of an error of this kind
abbrev pub words_of : ErrorKind → Text
words_of NotFound = codes "there is none"
words_of _ = codes "it failed"
