-- The system's files, as a contract can see them: what they answer of paths, and the calls that may change them.
use Rattle.std.specs.Prelude.{◌≡◌, ◌⊎◌, ◌∷◌, ℕ, List, Option, Some, None, option_map}
use Rattle.std.specs.Prelude.{MatchResult, Result, Ok, Err}
use Rattle.std.specs.IoError.{error_kind}
use Rattle.std.specs.declared.io.Error.{Error}
use Rattle.std.specs.declared.io.ErrorKind.{ErrorKind}
use Rattle.std.specs.declared.io.ErrorKind.TheVariants.{OutOfMemory}
use Rattle.std.specs.declared.fs.OpenOptions.{OpenOptions}
use Rattle.clap.specs.Words.{Text}
use Rattle.n2kdec.specs.declared.system.disk.Found.{Found}

-- Why a call failed: by this error; or by one of this kind, if no more is known of it.
pub data Why : Type 0 where
  This : Error → Why
  OfKind : ErrorKind → Why

abbrev pub kind_of : Why → ErrorKind
kind_of (This error) = error_kind error
kind_of (OfKind kind) = kind

-- ---- what is answered of a path

-- What a path leads to, over links (stat); the text of the link that it is (readlink); and the path after all links
-- (realpath): each what the system returns, or why it does not.
pub record Answers : Type 0 where
  pub found : Text → Result Found Why
  pub link : Text → Result Text Why
  pub real : Text → Result Text Why

-- the known answer is this error, or one of its kind
abbrev pub IsError : {V : Type 0} → Result V Why → Error → Type 0
IsError known error = (known ≡ Err (This error)) ⊎ (known ≡ Err (OfKind (error_kind error)))

-- memory is refused: nothing says when
abbrev pub IsOfMemory : Error → Type 0
IsOfMemory error = error_kind error ≡ OutOfMemory

-- this is the known answer
abbrev pub IsAnswer : {T V : Type 0} → (T → V) → Result V Why → Result T Error → Type 0
IsAnswer view known result = MatchResult result (λ value. known ≡ Ok (view value)) (λ error. IsError known error)

-- or memory was refused
abbrev pub IsAnswerUnlessMemory : {T V : Type 0} → (T → V) → Result V Why → Result T Error → Type 0
IsAnswerUnlessMemory view known (Ok value) = known ≡ Ok (view value)
IsAnswerUnlessMemory view known (Err error) = IsError known error ⊎ IsOfMemory error

-- ---- what is done

-- A call that may change what is on the disk. P says where: the disk's own calls have paths, those of the model of a
-- folder two names of it. A call of a file is one of the file that was opened last.
pub data Call (P : Type 0) : Type 0 where
  -- the file that is there is opened in this way, in place of the one that is open
  open_at : P → OpenOptions → Call P
  set_mode : ℕ → Call P
  -- a text is written to the open file, whole
  write : List ℕ → Call P
  sync : Call P
  -- the open file is closed, and none is open then
  close : Call P
  -- what is at the first gets the second, in the place of what is there
  rename : P → P → Call P
  remove : P → Call P
  -- the folder at this path, or in which this name is
  sync_folder : P → Call P

-- A call that was made, and why it failed; none if it is done. One that failed may be done, done in part, or not
-- done.
pub record Act (P : Type 0) : Type 0 where
  pub call : Call P
  pub failed : Option Why

-- why a call failed that answered this, if it did
abbrev pub failure : {T : Type 0} → Result T Error → Option Why
failure (Ok value) = None
failure (Err error) = Some (This error)

abbrev pub acted : {P T : Type 0} → Call P → Result T Error → Act P
acted call result = record { call = call; failed = failure result }

-- the open file is closed, which does not fail
abbrev pub closed : {P : Type 0} → Act P
closed = record { call = close; failed = None }

-- The acts, if known, the last one first; and one more.
abbrev pub Acts : Type 0
Acts = Option (List (Act Text))

unfoldable pub noted : Act Text → Acts → Acts
noted act acts = option_map (λ before. act ∷ before) acts
