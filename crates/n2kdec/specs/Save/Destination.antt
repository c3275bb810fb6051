-- Where a state goes: the file to which a name leads, over links, what that is, and the new file beside it.
use Rattle.std.specs.Prelude.{◌++◌, ◌&&◌, ◌||◌, ◌==◌, ℕ, zero, suc, Bool, true, false, [], ◌∷◌, if◌then◌else◌}
use Rattle.std.specs.Prelude.{nat_eq, nat_lt}
use Rattle.std.specs.Prelude.{Option, Some, None, Result, Ok, Err, codes, bit_and, unwrap_or, option_and_then, option_map}
use Rattle.std.specs.List.{ends_with, starts_with}
use Rattle.std.specs.Str.{bytes_eq}
use Rattle.std.specs.Path.{cur_dir, path_file_name, path_join, path_parent, path_with_file_name}
use Rattle.std.specs.declared.io.ErrorKind.{ErrorKind}
use Rattle.std.specs.declared.io.ErrorKind.TheVariants.{NotFound, InvalidInput, InvalidFilename, IsADirectory, FilesystemLoop}
use Rattle.clap.specs.Words.{Text}
use Rattle.n2k_wire.specs.Steps.{◌>>=◌, or_cause}
use Rattle.n2kdec.specs.System.Disk.{Answers, OfKind, Why, kind_of}
use Rattle.n2kdec.specs.declared.save.destination.Destination.{Destination}
use Rattle.n2kdec.specs.declared.save.destination.Kind.{Kind}
use Rattle.n2kdec.specs.declared.save.destination.Kind.TheVariants.{Alone, Shared, Special}
use Rattle.n2kdec.specs.declared.system.disk.Found.{Found}

-- ---- texts of paths

-- this folder, if one is named; else the current folder of the run
abbrev pub or_here : Option Text → Text
or_here None = cur_dir
or_here (Some []) = cur_dir
or_here (Some (byte ∷ rest)) = byte ∷ rest

-- the folder in which a path lies, as it is written
abbrev pub folder_of : Text → Text
folder_of path = or_here (path_parent path)

-- the path to which a link at this path leads, by the link's text: beside the link, or from the root
abbrev pub linked_path : Text → Text → Text
linked_path path link = path_join (unwrap_or (path_parent path) []) link

-- the last name of a path, if the path ends with that, and not with a slash
abbrev pub last_name : Text → Option Text
last_name path = option_and_then (λ name. if ends_with nat_eq path name then Some name else None) (path_file_name path)

-- The path of the new file beside that of this path: hidden, with the program's name, and the same for each run. If the
-- path doesn't end with a name, there is none.
abbrev pub new_path : Text → Option Text
new_path path =
    option_map (λ name. path_with_file_name path (codes "." ++ name ++ codes ".n2kdec-new")) (last_name path)

-- a folder of this path, after all links, is in `/proc`
unfoldable pub is_of_proc : Text → Bool
is_of_proc folder = bytes_eq folder (codes "/proc") || starts_with nat_eq folder (codes "/proc/")

-- ---- where a name leads

-- nothing is there
abbrev pub is_missing : ErrorKind → Bool
is_missing NotFound = true
is_missing _ = false

-- it is something other than a link
abbrev pub is_no_link : ErrorKind → Bool
is_no_link InvalidInput = true
is_no_link NotFound = true
is_no_link _ = false

-- what is returned for a path; none if nothing is there
abbrev pub if_there : {T : Type 0} → Result T Why → Result (Option T) Why
if_there (Ok answer) = Ok (Some answer)
if_there (Err why) = if is_missing (kind_of why) then Ok None else Err why

-- Whether a path is one of an open file: its folder is in `/proc`, as that of `/dev/fd/3` is. Its folder has to be
-- there.
unfoldable pub is_open_file : Answers → Text → Result Bool Why
is_open_file a path = do
  folder ← a.real (folder_of path)
  Ok (is_of_proc folder)

-- the path to which the link at a path leads, by what is returned for it; none if it is not a link
abbrev pub linked : Text → Result Text Why → Result (Option Text) Why
linked path (Ok link) = Ok (Some (linked_path path link))
linked path (Err why) = if is_no_link (kind_of why) then Ok None else Err why

-- The path after all links, of which so many are looked at, one after the other; none if one on the way leads to
-- an open file.
abbrev pub onward : (Text → Result (Option Text) Why) → Text → Option Text → Result (Option Text) Why
onward more path None = Ok (Some path)
onward more path (Some next) = more next

unfoldable pub link_target : ℕ → Answers → Text → Result (Option Text) Why
link_target zero a path = Err (OfKind FilesystemLoop)
link_target (suc looks) a path = do
  is_open ← is_open_file a path
  if is_open then Ok None else (linked path (a.link path) >>= onward (link_target looks a) path)

-- as many links are followed as the system follows, and the path after them is looked at too
abbrev pub most_links : ℕ
most_links = 40

-- ---- what a state does to what is there

-- the kind of what is there, if that is not a folder; nothing will be a file of this name alone
abbrev pub kind_at : Option Found → Result Kind Why
kind_at None = Ok Alone
kind_at (Some found) =
    if found.is_folder then Err (OfKind IsADirectory)
    else if found.is_file then Ok (if nat_lt 1 found.links then Shared else Alone) else Ok Special

-- a special file, or a path of an open file, is named as it is
abbrev pub placed_at : Text → Kind → Option Text → Text × Kind
placed_at name kind None = (name, Special)
placed_at name kind (Some path) = (path, kind)

abbrev pub placed : Answers → Text → Kind → Result (Text × Kind) Why
placed a name Special = Ok (name, Special)
placed a name kind = link_target (suc most_links) a name >>= λ path. Ok (placed_at name kind path)

unfoldable pub target_of : Answers → Text → Option Found → Result (Text × Kind) Why
target_of a name was = kind_at was >>= placed a name

-- A state under this name goes there, and of a mode those bits count that say who may read, write and run a file; or it can't be found out where, by the error of the first call that failed, since
-- the name is that of a folder, or since it ends with no name of a file.
unfoldable pub destination : Answers → Text → Result Destination Why
destination a name = do
  was ← if_there (a.found name)
  to ← target_of a name was
  temp ← or_cause (OfKind InvalidFilename) (new_path to.0)
  Ok (record { target = to.0; temp = temp; kind = to.1; mode = option_map (λ found. bit_and found.mode 0o777) was })

-- ---- two paths

-- both are one regular file, or one pipe if pipes count: what is written to it comes from it
abbrev pub are_one : Bool → Found → Found → Bool
are_one pipes one other =
    ((one.is_file && other.is_file) || (pipes && one.is_pipe && other.is_pipe))
    && one.device == other.device && one.number == other.number

-- by what both lead to; if one of them can't be looked at, the paths themselves are compared
abbrev pub are_same : (Found → Found → Bool) → Result Found Why → Result Found Why → Bool → Bool
are_same are (Ok one) (Ok other) spelled = are one other
are_same are _ _ spelled = spelled

-- whether both paths lead to one regular file, or to one pipe if pipes count
unfoldable pub leads : Bool → Answers → Text → Text → Bool
leads pipes a own path = are_same (are_one pipes) (a.found own) (a.found path) (bytes_eq own path)
