-- A log in parts: each part continues from the state that was saved after the part before it, and together they print
-- exactly what one run over the whole log prints.
use Rattle.std.specs.Prelude.{◌≡◌, ◌⊎◌, ◌<◌, ◌+◌, ℕ, List, [], ◌∷◌, ◌++◌, length, Option, Some, None, Result, Ok, Err}
use Rattle.std.specs.Prelude.{IfSome, IsOk, IsSome}
use Rattle.std.specs.List.{All, flat_map}
use Rattle.std.specs.Io.{IsEmptyOrEndsWith}
use Rattle.std.specs.Io.KnownBytes.{Appends, Consumes, IsAtEnd}
use Rattle.n2k_wire.specs.declared.entry.Entry.{Entry}
use Rattle.n2k_table.specs.Table.{TableParts, kind}
use Rattle.n2k_join.specs.declared.fault.StateFault.{StateFault}
use Rattle.n2k_join.specs.declared.fault.StateFault.TheVariants as state_faults
use Rattle.n2k_join.specs.Counts.{most_lines}
use Rattle.n2k_join.specs.Messages.{counts}
use Rattle.n2k_join.specs.Resumed.{resumed}
use Rattle.n2k_join.specs.Saved.{state_text}
use Rattle.n2k_join.specs.State.{State, state}
use Rattle.n2k_run.specs.declared.fault.RunFault.{RunFault}
use Rattle.n2k_run.specs.declared.fault.RunFault.TheVariants as run_faults
use Rattle.n2k_run.specs.declared.options.Options.{Options}
use Rattle.n2k_run.specs.declared.part.Part.{Part}
use Rattle.n2k_run.specs.declared.part.PartFault.{PartFault}
use Rattle.n2k_run.specs.declared.part.PartFault.TheVariants.{State as Refused, Stopped, Run, Memory}
use Rattle.n2k_run.specs.Decoded.{join_fold, out, out_of, output_after, reports, reports_of}
use Rattle.n2k_run.specs.Entries.{entries}
use Rattle.n2k_run.specs.Lines.{line_feed, whole_lines}
use Rattle.n2k_run.specs.Fold.{after_all}
use Rattle.n2k_run.specs.Headline.{save, state_after}
use Rattle.n2k_run.specs.Reading.{most_reads}
use Rattle.n2k_run.specs.Runs.{Devices, Output, Runs, output_from}
use Rattle.n2k_run.specs.Writing.{AppendsPrefix}

-- ---- the beginning of a part

-- The state that a part begins with: without a given state, the state before the first line; otherwise the state that
-- the bytes spell under the table and the window, or the reason why they are refused.
abbrev pub begun : TableParts → Options → Option (List ℕ) → Result State StateFault
begun t o None = Ok (state t.id o.window (kind t) [])
begun t o (Some bytes) = resumed (kind t) t.id o.window bytes

-- ---- the result of a part

-- The Part of this state: its saved text and its counts; the next part can continue from it.
pub record IsPartOf (t : TableParts) (o : Options) (s : State) (part : Part) : Type 0 where
  pub saved : part.state.items ≡ state_text s
  pub counted : part.counts ≡ s.counts
  pub reads_back : begun t o (Some part.state.items) ≡ Ok s

-- the Part of a result, if it has one, leads to this state
abbrev pub HasPart : TableParts → Options → Result Part PartFault → State → Type 0
HasPart t o (Ok part) s = IsPartOf t o s part
HasPart t o (Err (Stopped fault part)) s = IsPartOf t o s part
HasPart t o (Err (Refused fault)) s = Unit {0}
HasPart t o (Err (Run fault)) s = Unit {0}
HasPart t o (Err Memory) s = Unit {0}

-- after these results of a run the join is at a line, and can be saved
abbrev pub EndsAtLine : Result (Unit {0}) RunFault → Type 0
EndsAtLine (Ok x) = Unit {0}
EndsAtLine (Err run_faults.Read) = Unit {0}
EndsAtLine (Err run_faults.TooManyLines) = Unit {0}
EndsAtLine _ = ⊥

-- How the run of a result ended: with that result, or at a line whose state could not be saved. If the given state is
-- refused, nothing was run, and this is as after refused memory.
abbrev pub Ran : Result Part PartFault → Result (Unit {0}) RunFault → Type 0
Ran (Ok part) ran = ran ≡ Ok tt
Ran (Err (Stopped fault part)) ran = ran ≡ Err fault
Ran (Err (Run fault)) ran = ran ≡ Err fault
Ran (Err (Refused fault)) ran = ran ≡ Err run_faults.Memory
Ran (Err Memory) ran = EndsAtLine ran

-- the promise of every run holds of the run of a result
pub record TellsRun (o : Output) (also : List Entry → Type 0) (before after : Devices)
    (result : Result Part PartFault) : Type 0 where
  pub ran : Result (Unit {0}) RunFault
  pub ended : Ran result ran
  pub runs : Runs o also before after ran

-- Each kind of refusal has its faults: a Part is returned if the run is at a line, and none if the join can't be used
-- further.
abbrev pub IsOfKind : Result Part PartFault → Type 0
IsOfKind (Err (Stopped fault part)) = (fault ≡ run_faults.Read) ⊎ (fault ≡ run_faults.TooManyLines)
IsOfKind (Err (Run fault)) = (fault ≡ run_faults.Write) ⊎ ((fault ≡ run_faults.Report) ⊎ (fault ≡ run_faults.Memory))
IsOfKind (Err (Refused fault)) = Unit {0}
IsOfKind (Err Memory) = Unit {0}
IsOfKind (Ok part) = Unit {0}

-- A given state is refused, by its first fault or because memory was refused; otherwise the part begins with that
-- state.
abbrev pub BeginsBy : TableParts → Options → Option (List ℕ) → Result Part PartFault → Type 0
BeginsBy t o handed (Err (Refused fault)) =
    IsSome handed × ((fault ≡ state_faults.Memory) ⊎ (begun t o handed ≡ Err fault))
BeginsBy t o handed _ = IsOk (begun t o handed)

-- a state is refused only because memory was refused
abbrev pub RefusedByMemory : Result Part PartFault → Type 0
RefusedByMemory (Err (Refused fault)) = fault ≡ state_faults.Memory
RefusedByMemory _ = Unit {0}

-- a property that holds if the state was refused
abbrev pub OnRefusal : Result Part PartFault → Type 0 → Type 0
OnRefusal (Err (Refused fault)) P = P
OnRefusal _ P = Unit {0}

-- the result that a run with this end gives, if this is its Part
abbrev pub with_part : Part → Result (Unit {0}) RunFault → Result Part PartFault
with_part part (Ok x) = Ok part
with_part part (Err run_faults.Read) = Err (Stopped run_faults.Read part)
with_part part (Err run_faults.TooManyLines) = Err (Stopped run_faults.TooManyLines part)
with_part part (Err fault) = Err (Run fault)

-- ---- the headline

-- A log was cut after this prefix: it is empty or ends with a line, and the given state is the state after it.
pub record IsPrefix (t : TableParts) (o : Options) (prefix : List ℕ) (handed : Option (List ℕ)) : Type 0 where
  pub whole_lines : IsEmptyOrEndsWith prefix line_feed
  pub leads_to : begun t o handed ≡ Ok (state_after t o prefix)

-- The prefix and `more` are both printed: the sinks gained exactly the output and the reports of both after those of
-- the prefix, and the Part has the saved state and the counts after both.
pub record GoesOn (t : TableParts) (o : Options) (prefix more : List ℕ) (before after : Devices)
    (part : Part) : Type 0 where
  pub text : List ℕ
  pub printed : Appends before.written after.written text
  pub output : out t o (prefix ++ more) ≡ out t o prefix ++ text
  pub report : List ℕ
  pub reported : Appends before.reported after.reported report
  pub all_reports : reports t o (prefix ++ more) ≡ reports t o prefix ++ report
  pub saved : part.state.items ≡ save t o (prefix ++ more)
  pub counted : part.counts ≡ counts o.window (kind t) (entries o.packing (prefix ++ more))
  -- if both are empty or end with a line, the log can be cut here too
  pub reads_back : begun t o (Some part.state.items) ≡ Ok (state_after t o (prefix ++ more))

-- the sinks gained prefixes of the output and the reports of both after those of `prefix`
pub record GoesOnPartly (t : TableParts) (o : Options) (prefix more : List ℕ) (before after : Devices) : Type 0 where
  pub text : List ℕ
  pub printed : AppendsPrefix before.written after.written text
  pub output : out t o (prefix ++ more) ≡ out t o prefix ++ text
  pub report : List ℕ
  pub reported : AppendsPrefix before.reported after.reported report
  pub all_reports : reports t o (prefix ++ more) ≡ reports t o prefix ++ report

-- After TooManyLines: the lines of the prefix and the taken lines of the log are together the most lines, the log has
-- more, and the output is whole up to the last of them.
pub record GoesOnToLimit (t : TableParts) (o : Options) (prefix log : List ℕ) (before after : Devices)
    (part : Part) : Type 0 where
  pub taken : List ℕ
  pub rest : List ℕ
  pub log_is : log ≡ taken ++ rest
  pub more : 0 < length rest
  pub whole_lines : IsEmptyOrEndsWith taken line_feed
  pub full : length (entries o.packing (prefix ++ taken)) ≡ most_lines
  pub goes_on : GoesOn t o prefix taken before after part

-- The result of a part after this prefix of a log. After Ok everything is printed; after Read the output is whole up to
-- the last line that came, and after TooManyLines up to the last number.
abbrev pub Continues : TableParts → Options → List ℕ → Devices → Devices → Result Part PartFault → Type 0
Continues t o prefix before after (Ok part) =
    IsAtEnd after.left × IfSome before.left (λ log. GoesOn t o prefix log before after part)
Continues t o prefix before after (Err (Stopped run_faults.Read part)) =
    (came : List ℕ) × Consumes before.left after.left came × GoesOn t o prefix (whole_lines came) before after part
Continues t o prefix before after (Err (Stopped run_faults.TooManyLines part)) =
    IfSome before.left (λ log. GoesOnToLimit t o prefix log before after part)
Continues t o prefix before after (Err (Stopped _ part)) = ⊥
Continues t o prefix before after (Err (Refused fault)) = fault ≡ state_faults.Memory
Continues t o prefix before after _ = IfSome before.left (λ log. GoesOnPartly t o prefix log before after)

-- ---- the promise of a part's run

-- From a given state, or without one from the beginning of a log.
pub record RunsFrom (t : TableParts) (o : Options) (handed : Option (List ℕ)) (before after : Devices)
    (result : Result Part PartFault) : Type 0 where
  -- Each kind of refusal has its faults. A state is refused because of its content or because memory was refused, and
  -- then no device is touched.
  pub fault_kinds : IsOfKind result
  pub begins : BeginsBy t o handed result
  pub untouched : OnRefusal result (after ≡ before)
  -- From any state that can be read, even if no log leads to it: the texts and reports of the steps of the part's
  -- entries.
  pub steps : (s : State) → begun t o handed ≡ Ok s
      → TellsRun (output_from (join_fold t o.empty) o.packing s)
      (λ es. HasPart t o result (after_all (join_fold t o.empty) s es)) before after result
  -- From the state that these entries lead to: the output that the whole log gives for the lines after them.
  pub log : (prefix : List Entry) → begun t o handed ≡ Ok (state t.id o.window (kind t) prefix)
      → TellsRun (output_after t o prefix) (λ es. HasPart t o result (state t.id o.window (kind t) (prefix ++ es)))
      before after result
  -- The headline: after this prefix of a log, whose saved state was given, exactly the rest of the whole log's output
  -- is printed, and its state is saved.
  pub headline : (prefix : List ℕ) → IsPrefix t o prefix handed → Continues t o prefix before after result

-- ---- parts in memory

-- the entries of the lines of parts, in their order
abbrev pub entries_of_parts : Options → List (List ℕ) → List Entry
entries_of_parts o parts = flat_map (entries o.packing) parts

-- the devices with a source that has these bytes left, was called so often, and failed so often
abbrev pub with_source : Devices → Option (List ℕ) → ℕ → ℕ → Devices
with_source devices left calls failed_reads = record devices { left = left; calls = calls; failed_reads = failed_reads }

-- these parts were taken whole: the sinks gained the output of their entries, and no call of them failed
pub record TakesParts (t : TableParts) (o : Options) (parts : List (List ℕ)) (before after : Devices) : Type 0 where
  pub printed : Appends before.written after.written (out_of t o (entries_of_parts o parts))
  pub reported : Appends before.reported after.reported (reports_of t o (entries_of_parts o parts))
  pub writes : after.failed_writes ≡ before.failed_writes
  pub report_writes : after.failed_reports ≡ before.failed_reports

-- these parts were taken whole, and the Part is the result after them
pub record TakesAll (t : TableParts) (o : Options) (parts : List (List ℕ)) (before after : Devices)
    (part : Part) : Type 0 where
  pub taken : TakesParts t o parts before after
  pub leads_to : IsPartOf t o (state t.id o.window (kind t) (entries_of_parts o parts)) part

-- The run of a part in memory, after these entries: no call of its source failed. If the state can't be read because
-- memory was refused, nothing of the part was written.
pub record RunsPart (t : TableParts) (o : Options) (prefix : List Entry) (met : List ℕ) (before after : Devices)
    (result : Result Part PartFault) : Type 0 where
  pub left : Option (List ℕ)
  pub calls : ℕ
  pub run : TellsRun (output_after t o prefix) (λ es. HasPart t o result (state t.id o.window (kind t) (prefix ++ es)))
      (with_source before (Some met) 0 0) (with_source after left calls 0) result
  pub untouched : OnRefusal result (after ≡ before)

-- The parts before this one were taken whole, and at this one the run ended with this result of a part.
pub record EndsAtPart (t : TableParts) (o : Options) (parts : List (List ℕ)) (before after : Devices)
    (result : Result Part PartFault) : Type 0 where
  pub done : List (List ℕ)
  pub met : List ℕ
  pub later : List (List ℕ)
  pub parts_are : parts ≡ done ++ met ∷ later
  pub between : Devices
  pub taken : TakesParts t o done before between
  pub runs : RunsPart t o (entries_of_parts o done) met between after result

-- how a run over parts ends; before the first part memory may be refused
abbrev pub EndsParts : TableParts → Options → List (List ℕ) → Devices → Devices → Result Part PartFault → Type 0
EndsParts t o parts before after (Ok part) = TakesAll t o parts before after part
EndsParts t o parts before after (Err fault) =
    ((fault ≡ Memory) × (after ≡ before)) ⊎ EndsAtPart t o parts before after (Err fault)

-- each part has fewer bytes than a run makes reads, so that its end is found even if each read gives one byte
abbrev pub AreWithinReads : List (List ℕ) → Type 0
AreWithinReads parts = All (λ part. length part + 1 < most_reads) parts

-- a run was not stopped for Read
abbrev pub IsNotRead : Result Part PartFault → Type 0
IsNotRead (Err (Stopped fault part)) = fault ≡ run_faults.Read → ⊥
IsNotRead _ = Unit {0}
