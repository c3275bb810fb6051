-- A folder of two names, that to which a state goes and that of the new file beside it: what each may be found to have
-- after calls of the disk, and what a cut of the power may leave of it.
use Rattle.std.specs.Prelude.{◌≡◌, ◌⊎◌, ◌++◌, ◌||◌, ℕ, Bool, true, false, List, [], ◌∷◌, Option, Some, None}
use Rattle.std.specs.Prelude.{if◌then◌else◌}
use Rattle.std.specs.Fs.{asks_create_new, asks_truncate, new_options, with_append, with_create, with_create_new}
use Rattle.std.specs.Fs.{with_truncate, with_write}
use Rattle.std.specs.declared.fs.OpenOptions.{OpenOptions}
use Rattle.std.specs.declared.io.ErrorKind.{ErrorKind}
use Rattle.std.specs.declared.io.ErrorKind.TheVariants.{AlreadyExists, PermissionDenied, ReadOnlyFilesystem}
use Rattle.std.specs.declared.io.ErrorKind.TheVariants.{InvalidFilename, ResourceBusy, IsADirectory, Other}
use Rattle.clap.specs.Words.{Text}
use Rattle.n2kdec.specs.Save.Destination.{folder_of, is_missing}
use Rattle.n2kdec.specs.System.Disk.{Act, Acts, Call, OfKind, Why, close, kind_of, noted, open_at, set_mode, write, sync}
use Rattle.n2kdec.specs.System.Disk.{rename, remove, sync_folder}
use Rattle.n2kdec.specs.declared.save.destination.Destination.{Destination}

-- the name that gets a text, and that of the new file beside it, until the text is whole
pub data Name : Type 0 where
  Target : Name
  Temp : Name

-- what a name has: the text of a file, or no file
abbrev pub Content : Type 0
Content = Option (List ℕ)

-- ---- the calls of the disk

abbrev pub path_of : Destination → Name → Text
path_of d Target = d.target
path_of d Temp = d.temp

-- a call of the folder of this destination, as one of the disk
abbrev pub call_at : Destination → Call Name → Call Text
call_at d (open_at name how) = open_at (path_of d name) how
call_at d (set_mode mode) = set_mode mode
call_at d (write text) = write text
call_at d sync = sync
call_at d close = close
call_at d (rename from to) = rename (path_of d from) (path_of d to)
call_at d (remove name) = remove (path_of d name)
call_at d (sync_folder name) = sync_folder (folder_of (path_of d name))

abbrev pub act_at : Destination → Act Name → Act Text
act_at d act = record { call = call_at d act.call; failed = act.failed }

-- The disk's acts after these of the folder of this destination, the last one first, and no other.
abbrev pub after_acts : Destination → List (Act Name) → Acts → Acts
after_acts d [] before = before
after_acts d (act ∷ made) before = noted (act_at d act) (after_acts d made before)

-- a new file is made, which follows no link
abbrev pub makes_new : OpenOptions
makes_new = with_create_new (with_write new_options true) true

-- a file is opened to be written over: its content is removed; if there is no file, it is made
abbrev pub writes_over : Bool → OpenOptions
writes_over is_new = with_create (with_truncate (with_write new_options true) true) is_new

-- a file is opened for appending
abbrev pub appends : OpenOptions
appends = with_append new_options true

-- something has the path of the new file
abbrev pub is_taken : Option ErrorKind → Bool
is_taken (Some AlreadyExists) = true
is_taken _ = false

-- The folder does not allow what was asked of it: who may write there, a system that is read alone, a name that is too
-- long for it, a file that something is mounted on, or a folder in its place. By any other kind of error the call
-- failed.
abbrev pub is_refusal : ErrorKind → Bool
is_refusal PermissionDenied = true
is_refusal ReadOnlyFilesystem = true
is_refusal InvalidFilename = true
is_refusal ResourceBusy = true
is_refusal IsADirectory = true
is_refusal _ = false

-- ---- what a call does

pub data Extent : Type 0 where
  Whole : Extent
  -- all of it, some of it or nothing
  Unsure : Extent
  Nothing : Extent

-- How much of a call is done, by its answer. What is to be taken away and is not there is gone.
abbrev pub extent_of : Call Name → Option Why → Extent
extent_of call None = Whole
extent_of (open_at name how) (Some why) =
    if is_taken (Some (kind_of why)) || is_refusal (kind_of why) then Nothing else Unsure
extent_of (rename from to) (Some why) = if is_refusal (kind_of why) then Nothing else Unsure
extent_of (remove name) (Some why) =
    if is_missing (kind_of why) then Whole else if is_refusal (kind_of why) then Nothing else Unsure
extent_of _ (Some why) = Unsure

-- the same call, if a power cut interrupts it: what is refused does nothing then too
abbrev pub cut_failure : Extent → Option Why → Option Why
cut_failure Nothing failed = failed
cut_failure _ failed = Some (OfKind Other)

abbrev pub cut_short : Act Name → Act Name
cut_short act = record { call = act.call; failed = cut_failure (extent_of act.call act.failed) act.failed }

-- the name at which the open file was opened, if one is
abbrev pub opened_by : Call Name → Option Why → Option Name → Option Name
opened_by (open_at name how) None current = Some name
opened_by close failed current = None
opened_by _ _ current = current

abbrev pub opened : List (Act Name) → Option Name
opened [] = None
opened (act ∷ acts) = opened_by act.call act.failed (opened acts)

-- whose file a call makes, changes or takes away
abbrev pub changed_by : Call Name → Option Name → Option Name
changed_by (open_at name how) current = if asks_create_new how || asks_truncate how then Some name else None
changed_by close current = None
changed_by (rename from to) current = None
changed_by (remove name) current = Some name
changed_by (sync_folder name) current = None
changed_by _ current = current

-- ---- what a name has

-- the one if the names are the same, and the other if they differ, or there is none
abbrev pub Where : Name → Option Name → Type 0 → Type 0 → Type 0
Where name None same other = other
Where Target (Some Target) same other = same
Where Temp (Some Temp) same other = same
Where Target (Some Temp) same other = other
Where Temp (Some Target) same other = other

-- What a name may be found to have after a call that is done, if each may have had this: a file that is opened is
-- empty then, except one that is opened for appending.
abbrev pub HasDone : Call Name → Option Name → (Name → Content → Type 0) → Name → Content → Type 0
HasDone (open_at of how) current had name c =
    Where name (changed_by (open_at of how) current) (c ≡ Some []) (had name c)
HasDone (write text) current had name c =
    Where name current ((prefix : List ℕ) × had name (Some prefix) × (c ≡ Some (prefix ++ text))) (had name c)
HasDone (rename from to) current had name c =
    Where name (Some to) (had from c) (Where name (Some from) (c ≡ None) (had name c))
HasDone (remove old) current had name c = Where name (Some old) (c ≡ None) (had name c)
HasDone _ current had name c = had name c

-- A rename is done or not. The file of another call that may be done in part may have any text, or be gone; of a sync
-- too, since what was written may be lost.
abbrev pub HasAfter : Extent → Call Name → Option Name → (Name → Content → Type 0) → Name → Content → Type 0
HasAfter Whole call current had name c = HasDone call current had name c
HasAfter Nothing call current had name c = had name c
HasAfter Unsure (rename from to) current had name c = had name c ⊎ HasDone (rename from to) current had name c
HasAfter Unsure call current had name c = Where name (changed_by call current) (Unit {0}) (had name c)

abbrev pub MayHave : (Name → Content) → List (Act Name) → Name → Content → Type 0
MayHave first [] name c = c ≡ first name
MayHave first (act ∷ acts) name c =
    HasAfter (extent_of act.call act.failed) act.call (opened acts) (MayHave first acts) name c

-- The texts that a cut may leave in the file that has a name now: any, once it is made or changed, until it is synced.
abbrev pub FileAfter : Extent → Call Name → Option Name → (Name → Content → Type 0) → (Name → List ℕ → Type 0) → Name
    → List ℕ → Type 0
FileAfter Nothing call current had left name text = left name text
FileAfter Whole sync current had left name text = Where name current (had name (Some text)) (left name text)
FileAfter Whole (rename from to) current had left name text = Where name (Some to) (left from text) (left name text)
FileAfter Unsure (rename from to) current had left name text =
    Where name (Some to) (left name text ⊎ left from text) (left name text)
FileAfter extent call current had left name text = Where name (changed_by call current) (Unit {0}) (left name text)

abbrev pub FileMayBeLeft : (Name → Content) → List (Act Name) → Name → List ℕ → Type 0
FileMayBeLeft first [] name text = first name ≡ Some text
FileMayBeLeft first (act ∷ acts) name text =
    FileAfter (extent_of act.call act.failed) act.call (opened acts) (MayHave first acts) (FileMayBeLeft first acts)
    name text

-- What a cut may leave under a name: until the folder is synced a rename is there or not, and what is made, changed or
-- taken away may be there, or anything else.
abbrev pub LeftAfter : Extent → Call Name → Option Name → (Name → Content → Type 0) → (Name → List ℕ → Type 0)
    → (Name → Content → Type 0) → Name → Content → Type 0
LeftAfter Nothing call current had file left name c = left name c
LeftAfter Whole (sync_folder of) current had file left name c =
    ((text : List ℕ) × file name text × (c ≡ Some text)) ⊎ (had name None × (c ≡ None))
LeftAfter extent (rename from to) current had file left name c =
    Where name (Some to) (left name c ⊎ ((text : List ℕ) × file from text × (c ≡ Some text)))
    (Where name (Some from) (left name c ⊎ (c ≡ None)) (left name c))
LeftAfter extent call current had file left name c = Where name (changed_by call current) (Unit {0}) (left name c)

abbrev pub MayBeLeft : (Name → Content) → List (Act Name) → Name → Content → Type 0
MayBeLeft first [] name c = c ≡ first name
MayBeLeft first (act ∷ acts) name c =
    LeftAfter (extent_of act.call act.failed) act.call (opened acts) (MayHave first acts) (FileMayBeLeft first acts)
    (MayBeLeft first acts) name c
