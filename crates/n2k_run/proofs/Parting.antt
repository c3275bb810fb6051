-- A part of a log: its run's promise gives its own.
use Rattle.std.proofs.Common.{◌≡◌, ℕ, List, [], ◌∷◌, ◌++◌, arith, Option, Some, None, Result, Ok, Err, refl, sym, ◌∙◌, subst, append-nil, ◌⊎◌, IfSome}
use Rattle.n2k_wire.specs.declared.entry.Entry.{Entry}
use Rattle.n2k_table.specs.declared.definition.Kind.{Kind}
use Rattle.n2k_table.specs.Table.{TableParts, kind}
use Rattle.n2k_join.specs.declared.fault.StateFault.{StateFault}
use Rattle.n2k_join.specs.declared.fault.StateFault.TheVariants as state_faults
use Rattle.n2k_join.specs.Resumed.{resumed}
use Rattle.n2k_join.specs.Saved.{IsId}
use Rattle.n2k_join.specs.State.{State, state, AreFast, step_after}
use Rattle.n2k_join.specs.Window.{Window, IsWindow}
use Rattle.n2k_run.specs.declared.fault.RunFault.{RunFault}
use Rattle.n2k_run.specs.declared.fault.RunFault.TheVariants as run_faults
use Rattle.n2k_run.specs.declared.part.Part.{Part}
use Rattle.n2k_run.specs.declared.part.PartFault.{PartFault}
use Rattle.n2k_run.specs.declared.part.PartFault.TheVariants.{State as Refused, Stopped, Run}
use Rattle.n2k_run.specs.declared.options.Options.{Options}
use Rattle.n2k_run.specs.Decoded.{join_fold, output_after}
use Rattle.n2k_run.specs.Entries.{entries}
use Rattle.n2k_run.specs.Inner.Parts.{Finishes, HasSaved}
use Rattle.n2k_run.specs.Fold.{after_all}
use Rattle.n2k_run.specs.Parts.{BeginsBy, HasPart, OnRefusal, EndsAtLine, TellsRun, begun}
use Rattle.n2k_run.specs.Runs.{Devices, HasPrefixes, Output, Runs, output_from}
use Rattle.n2k_run.proofs.Calls.{none_read}
use Rattle.n2k_run.proofs.Ending.{of_log, runs_more, runs_same}
use Rattle.n2k_run.proofs.LogSteps.{LogLaws, output_after-is, state_after}
use Rattle.n2k_run.proofs.Running.{all_gained, none_gained}

known_any : (known : Option (List ℕ)) (P : List ℕ → Type 0) → ((log : List ℕ) → P log) → IfSome known P
known_any known P all = grind arith

-- a run that never began: nothing was read or written
pub unbegun : (o : Output) (stands : List Entry → Type 0) (before : Devices) (fault : StateFault) → o.reports [] ≡ [] → TellsRun o stands before before (Err (Refused fault))
unbegun o stands before fault none = grind (arith, known_any, none_gained, append-nil, none_read)

module _ (o : Output) (before after : Devices) where
  -- if a run ends at a line, the sinks gained prefixes of the log's output
  pub line_prefixes : (stands : List Entry → Type 0) (ran : Result (Unit {0}) RunFault) → EndsAtLine ran → Runs o stands before after ran → IfSome before.left (HasPrefixes o before after)
  line_prefixes stands (Ok x) line runs = of_log o stands before after _ runs.ends (record {
    printed = all_gained before.written after.written (o.texts (entries o.packing runs.ends.came)) runs.ends.gained.printed;
    reported = all_gained before.reported after.reported (o.reports (entries o.packing runs.ends.came)) runs.ends.gained.reported;
  })
  line_prefixes stands (Err run_faults.Read) line runs = runs.prefixes
  line_prefixes stands (Err run_faults.TooManyLines) line runs = runs.prefixes
  line_prefixes stands _ line runs = absurd line

  -- the run of a result, by its end
  pub told_ok : (stands : List Entry → Type 0) (part : Part) → TellsRun o stands before after (Ok part) → Runs {T = Unit {0}} o stands before after (Ok tt)
  told_ok stands part told = subst (λ r. Runs o stands before after r) told.ended told.runs

  pub told_stopped : (stands : List Entry → Type 0) (fault : RunFault) (part : Part) → TellsRun o stands before after (Err (Stopped fault part)) → Runs {T = Unit {0}} o stands before after (Err fault)
  told_stopped stands fault part told = subst (λ r. Runs o stands before after r) told.ended told.runs

  pub told_run : (stands : List Entry → Type 0) (fault : RunFault) → TellsRun o stands before after (Err (Run fault)) → Runs {T = Unit {0}} o stands before after (Err fault)
  told_run stands fault told = subst (λ r. Runs o stands before after r) told.ended told.runs

-- after a run no state is refused
pub begins_by : (t : TableParts) (o : Options) (handed : Option (List ℕ)) (s : State) (result : Result Part PartFault) (ran : Result (Unit {0}) RunFault) → begun t o handed ≡ Ok s → Finishes result ran → BeginsBy t o handed result
begins_by t o handed s result ran is finishes = grind arith

pub not_refused : (result : Result Part PartFault) (ran : Result (Unit {0}) RunFault) (P : Type 0) → Finishes result ran → OnRefusal result P
not_refused result ran P finishes = grind arith

-- ---- the states that a part goes through

-- a state under a table and a window; its saved text reads back
pub record IsUnder (t : TableParts) (o : Options) (s : State) : Type 0 where
  pub fast : AreFast (kind t) s.groups
  pub same_table : s.id ≡ t.id
  pub same_window : s.window ≡ o.window

-- the join's laws of states under a table
pub record KeepsFast : Type 0 where
  pub new : (kind : ℕ → Option Kind) (id : List ℕ) (w : Window) → AreFast kind (state id w kind []).groups
  pub read : (kind : ℕ → Option Kind) (id : List ℕ) (w : Window) (bytes : List ℕ) (s : State) → resumed kind id w bytes ≡ Ok s → AreFast kind s.groups
  pub same_table : (kind : ℕ → Option Kind) (id : List ℕ) (w : Window) (bytes : List ℕ) (s : State) → resumed kind id w bytes ≡ Ok s → s.id ≡ id
  pub same_window : (kind : ℕ → Option Kind) (id : List ℕ) (w : Window) (bytes : List ℕ) (s : State) → resumed kind id w bytes ≡ Ok s → s.window ≡ w
  pub step : (kind : ℕ → Option Kind) (s : State) (e : Entry) → IsWindow s.window.lines → AreFast kind s.groups → AreFast kind (step_after kind s e).groups

same_state : (s s' : State) → (let r : Result State StateFault = Ok s in r) ≡ Ok s' → s ≡ s'
same_state s s' is = cc

module _ (laws : KeepsFast) (t : TableParts) (o : Options) (window : IsWindow o.window.lines) where
  pub begun-under : (handed : Option (List ℕ)) (s : State) → begun t o handed ≡ Ok s → IsUnder t o s
  begun-under None s is =
      let same : state t.id o.window (kind t) [] ≡ s = same_state _ _ is in
      subst (IsUnder t o) same (record { fast = laws.new (kind t) t.id o.window; same_table = refl; same_window = refl })
  begun-under (Some bytes) s is = grind arith

  step-id : (s : State) (e : Entry) → (step_after (kind t) s e).id ≡ s.id
  unfolding step_after
  step-id s e = refl

  step-window : (s : State) (e : Entry) → (step_after (kind t) s e).window ≡ s.window
  unfolding step_after
  step-window s e = refl

  pub after-under : (s : State) (es : List Entry) → IsUnder t o s → IsUnder t o (after_all (join_fold t o.empty) s es)
  after-under s [] under = under
  after-under s (e ∷ es) under = after-under (step_after (kind t) s e) es (record {
    fast = laws.step (kind t) s e (subst (λ (r : Window). IsWindow r.lines) (sym under.same_window) window) under.fast;
    same_table = step-id s e ∙ under.same_table;
    same_window = step-window s e ∙ under.same_window;
  })

  pub has_part : (s : State) (result : Result Part PartFault) → IsId t.id → IsUnder t o s → HasSaved result s → HasPart t o result s
  has_part s result id under saves = grind arith

  -- the steps from the state that the part began with
  pub steps_of : (handed : Option (List ℕ)) (join join' : State) (before after : Devices) (ran : Result (Unit {0}) RunFault) (result : Result Part PartFault) → IsId t.id → begun t o handed ≡ Ok join
      → Runs (output_from (join_fold t o.empty) o.packing join) (λ es. join' ≡ after_all (join_fold t o.empty) join es) before after ran → HasSaved result join' → Finishes result ran
      → (s : State) → begun t o handed ≡ Ok s → TellsRun (output_from (join_fold t o.empty) o.packing s) (λ es. HasPart t o result (after_all (join_fold t o.empty) s es)) before after result
  steps_of handed join join' before after ran result id began runs saved finishes s is = grind (arith, begun-under handed join began, same_state, runs_more, has_part, after-under)

-- from the state of a log: the output of the whole log
pub log_of : (t : TableParts) (o : Options) → LogLaws o.window → (before after : Devices) (result : Result Part PartFault) (prefix : List Entry)
    → TellsRun (output_from (join_fold t o.empty) o.packing (state t.id o.window (kind t) prefix)) (λ es. HasPart t o result (after_all (join_fold t o.empty) (state t.id o.window (kind t) prefix) es)) before after result
    → TellsRun (output_after t o prefix) (λ es. HasPart t o result (state t.id o.window (kind t) (prefix ++ es))) before after result
log_of t o laws before after result prefix steps =
    let same = output_after-is t o laws t.id prefix in
    let runs = runs_same _ (output_after t o prefix) _ before after steps.ran same steps.runs in
    record {
      ran = steps.ran;
      ended = steps.ended;
      runs = runs_more (output_after t o prefix) (λ es. HasPart t o result (after_all (join_fold t o.empty) (state t.id o.window (kind t) prefix) es)) (λ es. HasPart t o result (state t.id o.window (kind t) (prefix ++ es))) before after steps.ran runs
          (λ es has. subst (HasPart t o result) (state_after t o laws t.id prefix es) has);
    }

-- ---- a refused state

pub refused_by : (fault : StateFault) (said : Result State StateFault) → ((fault ≡ state_faults.Memory → ⊥) → said ≡ Err fault) → (fault ≡ state_faults.Memory) ⊎ (said ≡ Err fault)
refused_by fault said h = grind arith

pub memory_alone : (fault : StateFault) (said : Result State StateFault) (s : State) → said ≡ Ok s → (fault ≡ state_faults.Memory) ⊎ (said ≡ Err fault) → fault ≡ state_faults.Memory
memory_alone fault said s is h = grind arith
