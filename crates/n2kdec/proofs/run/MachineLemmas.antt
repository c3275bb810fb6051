-- From what a call leaves to what the program leaves.
use Rattle.std.proofs.Common.{arith, ◌≡◌, ◌⊎◌, ◌++◌, append_assoc, ℕ, List, [], ◌∷◌, Option, Some, None, Result, Ok, Err, option_map, inl, inr, refl, subst, sym, ◌<◌, ◌≤◌, IfSome, IsErrAnd, IsSome, length, unwrap_or}
use Rattle.std.specs.declared.io.Error.{Error}
use Rattle.clap.specs.Words.{Text}
use Rattle.n2kdec.specs.CommandLine.Asked.{save_name}
use Rattle.n2kdec.specs.Run.Commands.{Performs, shelf}
use Rattle.n2kdec.specs.System.Machine.{Calls, IsAdmittedSo, IsNotRead, IsPerformed, IsRead, IsReadBefore, IsUnread, LogAfter, Makes, OutputsView, ReadsFile, RunsCommand, Environment, too_large, with_log}
use Rattle.n2k_join.specs.declared.counts.Counts.{Counts}
use Rattle.n2k_run.specs.Device.{IsWhy}
use Rattle.n2kdec.specs.Fault.{longest_file, unopened, unread}
use Rattle.n2kdec.specs.Save.StateStore.{Admission}
use Rattle.n2kdec.specs.System.Disk.{IsOfMemory}
use Rattle.n2kdec.specs.declared.command_line.asked.Command.{Command}
use Rattle.n2kdec.specs.declared.command_line.asked.Files.{Files}
use Rattle.n2kdec.specs.declared.command_line.asked.Subcommand.{Subcommand}
use Rattle.n2kdec.specs.declared.fault.Fault.{Fault}
use Rattle.n2kdec.specs.declared.fault.Fault.TheVariants.{Memory, Save}
use Rattle.n2kdec.specs.declared.fault.InputFile.{InputFile}
use Rattle.n2kdec.specs.declared.fault.InputFile.TheVariants as reading
use Rattle.n2kdec.specs.declared.save.keeper.SaveError.{SaveError}
use Rattle.n2kdec.specs.declared.system.machine.FileCall.{FileCall}
use Rattle.n2kdec.specs.declared.system.machine.FileCall.TheVariants.{Opened, Closed}

-- ---- which calls of files were made

pub makes_then : (a b c : Calls) (first then : List FileCall) → Makes first a b → Makes then b c → Makes (first ++ then) a c
makes_then a b c first then made more = grind (arith, append_assoc)

-- a file is opened, and closed again
pub opened_closed : (a b c : Calls) (name : Option Text) (reads : ℕ) (why known : Option Error) → Makes (Opened name None ∷ []) a b → Makes (Closed reads why ∷ []) b c → why ≡ known
    → Makes (Opened name None ∷ Closed reads known ∷ []) a c
opened_closed a b c name reads why known opened closed is = grind (arith, makes_then)

-- what a file that was opened and closed comes to, by its failed calls: its bytes are few, or too many; memory was refused; or the last read that failed did by this error
abbrev pub Came : {T : Type 0} → Option (List ℕ) → InputFile → ℕ → Option Error → Result T Fault → Type 0
Came bytes read failed why (Ok value) = (failed ≡ 0) × IfSome bytes (λ bytes. length bytes ≤ longest_file)
Came bytes read failed why (Err fault) =
    ((failed ≡ 0) × (too_large read ≡ Some fault) × IfSome bytes (λ bytes. longest_file < length bytes))
    ⊎ ((failed ≡ 0) × (fault ≡ Memory (Some read)))
    ⊎ ((0 < failed) × (fault ≡ unread read why))

module _ {T : Type 0} (w : Environment) (name : Text) (read : InputFile) (a b c : Calls) (reads failed : ℕ) (why : Option Error) (is_why : IsWhy failed why) where
  abbrev Comes : Option Text → Result T Fault → Type 0
  Comes named result = (made : List FileCall) × Makes made a c × ReadsFile w named read result made

  came : (result : Result T Fault) → Makes (Opened (Some name) None ∷ []) a b → Makes (Closed reads why ∷ []) b c → Came (w.file name) read failed why result → Comes (Some name) result
  came (Ok value) opened closed (none, few) = (_, opened_closed a b c (Some name) reads why None opened closed (is_why.0 none), (few, (reads, refl)))
  came (Err fault) opened closed (inl (none, large, many)) = (_, opened_closed a b c (Some name) reads why None opened closed (is_why.0 none), inl (large, many, (reads, refl)))
  came (Err fault) opened closed (inr (inl (none, memory))) = (_, opened_closed a b c (Some name) reads why None opened closed (is_why.0 none), inr (inr (inr (memory, (reads, refl)))))
  came (Err fault) opened closed (inr (inr (some, is))) = grind (arith, opened_closed a b c (Some name) reads why why opened closed refl)

  pub read_and_closed : (named : Option Text) (result : Result T Fault) → named ≡ Some name → Makes (Opened named None ∷ []) a b → Makes (Closed reads why ∷ []) b c → Came (w.file name) read failed why result → Comes named result
  read_and_closed named result is opened closed comes = subst (λ n. Comes n result) (sym is) (came result (subst (λ n. Makes (Opened n None ∷ []) a b) is opened) closed comes)

-- ---- a command

-- over a log of which no call was made, by the bytes that were read
module _ (task : Subcommand) (table : List ℕ) (handed : Option (List ℕ)) (before after : OutputsView) (log : LogAfter) (result : Result Counts Fault) where
  abbrev pub PerformsAfter : List ℕ → Option (List ℕ) → Option (List ℕ) → ℕ → ℕ → Type 0
  PerformsAfter held lent left calls failed = Performs task held lent (with_log left calls failed before) (with_log log.left log.calls log.failed after)
      (shelf (save_name task) before.kept) (shelf (save_name task) after.kept) result

  pub performed_over : (held : List ℕ) (lent left known : Option (List ℕ)) (calls failed : ℕ) → held ≡ table → lent ≡ handed → left ≡ known → calls ≡ 0 → failed ≡ 0
      → PerformsAfter held lent left calls failed → PerformsAfter table handed known 0 0
  performed_over held lent left known calls failed is_table is_state is none none_failed performs = grind arith

-- the bytes of a table that was read, or none
pub table_is : {T : Type 0} (items : T → List ℕ) (read : Option T) (none held : T) → items none ≡ [] → held ≡ unwrap_or read none → items held ≡ unwrap_or (option_map items read) []
table_is items read none held empty is = grind arith

-- a command that is performed is run
pub performed : (w : Environment) (command : Command) (before after : OutputsView) (result : Result Counts Fault) → IsPerformed w command before after result
    → RunsCommand w command before after result
performed w command before after result done = grind arith

-- the state of one is admitted if it is not refused
pub admitted : (admits : Admission) (command : Command) (answer : Result (Unit {0}) SaveError) → IsAdmittedSo admits command answer → ((why : SaveError) → answer ≡ Err why → ⊥) → IsAdmittedSo admits command (Ok tt)
admitted admits command (Ok done) is not = is
admitted admits command (Err why) is not = absurd (not why refl)

-- one whose state is not admitted
pub not_admitted : (w : Environment) (command : Command) (o : OutputsView) (why : SaveError) → IsSome (save_name command.task) → IsAdmittedSo o.admits command (Err why)
    → RunsCommand w command o o (Err (Save why))
not_admitted w command o why named answer = inr (inr (why, refl, named, answer, refl))

-- one whose files are not read is not begun
module _ (w : Environment) (command : Command) (o : OutputsView) (used : Calls) (fault : Fault) (result : Result Counts Fault) (is : IsErrAnd result (λ told. told ≡ fault)) where
  abbrev IsNotBegunSo : Type 0
  IsNotBegunSo = RunsCommand w command o (record o { calls = used }) result

  pub not_begun : (read : InputFile) (first last : List FileCall) → IsAdmittedSo o.admits command (Ok tt) → IsReadBefore w command.files read first
      → IsNotRead w command.files read fault last → Makes (first ++ last) o.calls used → IsNotBegunSo
  not_begun read first last admitted before_it unread calls = grind arith

  pub table_unread : IsAdmittedSo o.admits command (Ok tt) → (of_table : List FileCall) × Makes of_table o.calls used × IsUnread w command.files.table reading.Table fault of_table
      → IsNotBegunSo
  table_unread admitted table = not_begun reading.Table [] table.0 admitted refl table.2 table.1

  pub state_unread : (mid : Calls) → IsAdmittedSo o.admits command (Ok tt) → (of_table : List FileCall) × Makes of_table o.calls mid × IsRead w command.files.table of_table
      → (of_state : List FileCall) × Makes of_state mid used × IsUnread w command.files.state reading.State fault of_state → IsNotBegunSo
  state_unread mid admitted table state = grind (arith, makes_then)

  pub log_unread : (mid then : Calls) → IsAdmittedSo o.admits command (Ok tt) → (of_table : List FileCall) × Makes of_table o.calls mid × IsRead w command.files.table of_table
      → (of_state : List FileCall) × Makes of_state mid then × IsRead w command.files.state of_state
      → (error : Error) → (IsSome command.files.log ⊎ IsOfMemory error) × Makes (Opened command.files.log (Some error) ∷ []) then used → fault ≡ unopened reading.Log error → IsNotBegunSo
  log_unread mid then admitted table state error opens same =
      not_begun reading.Log (table.0 ++ state.0) _ admitted (table.0, state.0, table.2, state.2, refl) (error, opens.0, same, refl) (grind (arith, append_assoc))

-- all files were read, and the log was opened and closed
pub all_calls : (files : Files) (a b c d e : Calls) (of_table of_state : List FileCall) (reads : ℕ) (why : Option Error) → Makes of_table a b → Makes of_state b c
    → Makes (Opened files.log None ∷ []) c d → Makes (Closed reads why ∷ []) d e → Makes (of_table ++ of_state ++ Opened files.log None ∷ Closed reads why ∷ []) a e
all_calls files a b c d e of_table of_state reads why table state opened closed = grind (arith, append_assoc)
