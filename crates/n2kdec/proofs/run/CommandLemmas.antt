-- From the run of a command and its closing to what the command leaves.
use Rattle.std.proofs.Common.{◌≡◌, ◌++◌, true, arith, ℕ, List, [], Option, None, Some, Ok, Err, Result, IfOk, IfErr, IfSome, inl, subst, sym, append_assoc, refl, false, ◌≢◌, Contains}
use Rattle.std.proofs.KnownBytes.{Appends-trans}
use Rattle.std.specs.Io.KnownBytes.{Appends}
use Rattle.clap.specs.Words.{Text}
use Rattle.n2k_wire.specs.declared.entry.Entry.{Entry}
use Rattle.n2k_table.specs.Table.{TableParts, faults, kind, table as table_of}
use Rattle.n2k_table.specs.declared.fault.TableFault.{TableFault}
use Rattle.n2k_table.specs.declared.fault.TableFault.TheVariants as table_faults
use Rattle.n2k_join.specs.declared.counts.Counts.{Counts}
use Rattle.n2k_join.specs.State.{State as StateOf, state}
use Rattle.n2k_run.specs.Decoded.{join_fold, output_after}
use Rattle.n2k_run.specs.Fold.{after_all}
use Rattle.n2k_run.specs.FramesOut.{frame_counts_of, frames_output}
use Rattle.n2k_run.specs.Parts.{EndsAtLine, Continues, HasPart, IsOfKind, IsPartOf, RefusedByMemory, RunsFrom, TellsRun, with_part}
use Rattle.n2k_run.specs.Plain.{plain_counts_of, plain_output}
use Rattle.n2k_run.specs.Reports.{summary_text}
use Rattle.n2k_run.specs.Runs.{Devices, Output, ReportsFirst, Runs, output_from}
use Rattle.n2k_run.specs.declared.fault.RunFault.{RunFault}
use Rattle.n2k_run.specs.declared.fault.RunFault.TheVariants as run
use Rattle.n2k_run.specs.declared.options.Options.{Options}
use Rattle.n2k_run.specs.declared.part.Part.{Part}
use Rattle.n2k_run.specs.declared.part.PartFault.{PartFault}
use Rattle.n2k_run.specs.declared.part.PartFault.TheVariants as part_faults
use Rattle.n2k_run.proofs.Parting.{line_prefixes, told_ok, told_stopped}
use Rattle.n2k_run.proofs.Running.{known_more}
use Rattle.n2kdec.specs.CommandLine.Asked.{save_name}
use Rattle.n2kdec.specs.Run.Commands.{ByTable, ClosesRun, Decodes, Effect, Ends, EndsUnlessRefused, IsRefusal, IsSaved, IsStopped, IsUntouched, IsWrittenUnlessFailed, SaveAttempt, Performs, Place, PrintsRest, Replaces, StoreView, SumsUpPart, decode_to, entries_for, place, shelf, whole_effect}
use Rattle.n2kdec.specs.Fault.{fault_of_run}
use Rattle.n2kdec.specs.Inner.Closing.{Closes, ClosesPart}
use Rattle.n2kdec.specs.declared.command_line.asked.Subcommand.{Subcommand}
use Rattle.n2kdec.specs.declared.command_line.asked.Subcommand.TheVariants.{Plain, Decode, Frames, Encode}
use Rattle.n2kdec.specs.declared.fault.Fault.{Fault}
use Rattle.n2kdec.specs.declared.fault.Fault.TheVariants.{Memory, Read, Table}
use Rattle.n2kdec.specs.declared.fault.InputFile.TheVariants as reading
use Rattle.n2kdec.specs.declared.save.keeper.SaveError.{SaveError}

-- a text follows what was written first
more_after : (old mid new : Option (List ℕ)) (text more : List ℕ) → (rest : List ℕ) × Appends old mid (text ++ rest) → Appends mid new more → (rest : List ℕ) × Appends old new (text ++ rest)
more_after old mid new text more first then = (first.0 ++ more, rw append_assoc at (Appends-trans old mid new (text ++ first.0) more first.1 then))

-- what is reported of a run's fault: after a failed read the state was kept, or could not be for this
abbrev told_so : Option SaveError → RunFault → ℕ → Fault
told_so unkept run.Read lines = Read lines None unkept
told_so unkept f lines = fault_of_run f lines

-- a command made its run, which left the devices so except the errors, which then took a summary or a prefix of it
module _ (before after : Devices) (errors : Place) where
  abbrev mid : Devices
  mid = record after { reported = errors.text; failed_reports = errors.failed }

  abbrev summed : Place
  summed = place after.reported after.failed_reports

  module _ (c : Effect) (stands : List Entry → Type 0) where
    -- nothing is written, and nothing is saved
    abbrev IsLeft : Type 0
    IsLeft = (summed ≡ errors) × IsUntouched c.saving

    -- what follows the fault of a run: the summary of the lines that it has taken, or nothing
    abbrev Follows : Option SaveError → ℕ → RunFault → Type 0
    Follows unkept lines run.Read = (es : List Entry) → stands es → SumsUpPart c.sums_up_a_part errors summed (summary_text (c.counts es))
        × Replaces c.saving.before c.saving.after (c.saving.state es) errors.text unkept × (lines ≡ (c.counts es).lines)
    Follows unkept lines run.TooManyLines = (es : List Entry) → stands es → SumsUpPart c.sums_up_a_part errors summed (summary_text (c.counts es))
        × IsUntouched c.saving
    Follows unkept lines _ = IsLeft

    still_first : (more : List ℕ) × Appends errors.text after.reported more → IfSome before.left (ReportsFirst c.output before mid) → IfSome before.left (ReportsFirst c.output before after)
    still_first then = known_more before.left _ _ (λ log first. record {
      taken = first.taken;
      left = first.left;
      lines_taken = first.lines_taken;
      printed = first.printed;
      reported = more_after before.reported errors.text after.reported (c.output.reports first.taken) then.0 first.reported then.1;
    })

    -- a run's fault stops a command
    stopped_by_run : {T : Type 0} (unkept : Option SaveError) (f : RunFault) (lines : ℕ) → Runs {T = T} c.output stands before mid (Err f) → Follows unkept lines f → (more : List ℕ) × Appends errors.text after.reported more
        → IsStopped c before after (told_so unkept f lines)
    stopped_by_run unkept f lines ran follows then = grind (arith, still_first)

    left_at_line : (ran : Result (Unit {0}) RunFault) → EndsAtLine ran → c.sums_up_a_part ≡ true → Runs c.output stands before mid ran → IsLeft → IsStopped c before after (Memory (Some reading.Log))
    left_at_line ran line part runs left = grind (arith, line_prefixes)

    -- a run came to its end, and what is saved and summed up is what the command saves and counts
    module _ {T : Type 0} (x : T) (text : List ℕ) (counts : Counts) (ran : Runs {T = T} c.output stands before mid (Ok x))
        (counted : (counts ≡ c.counts (entries_for c ran.ends.came)) × (text ≡ c.saving.state (entries_for c ran.ends.came))) where
      saved : (unkept : Option SaveError) → Replaces c.saving.before c.saving.after text errors.text unkept → IsSaved c before unkept (entries_for c ran.ends.came)
      saved unkept keeps = (errors.text, ran.ends.gained.reported, subst (λ t. Replaces c.saving.before c.saving.after t errors.text unkept) counted.1 keeps)

      first : IsWrittenUnlessFailed errors summed (summary_text counts) → IfSome before.left (ReportsFirst c.output before after)
      first said = grind (arith, still_first)

      ended_by_closing : (r : Result Counts Fault) → Closes c.saving.before c.saving.after errors summed text counts r → Ends c before after r
      ended_by_closing r closes = grind (arith, saved, Appends-trans, first)

  -- the run of a whole log, which is then closed: no state is saved
  module _ (output : Output) (counts_of : List Entry → Counts) where
    ended_whole : (counts : Counts) (ended : Result (Unit {0}) RunFault) (r : Result Counts Fault) → Runs output (λ es. counts ≡ counts_of es) before mid ended
        → ClosesRun false errors summed counts ended r → Ends (whole_effect output counts_of) before after r
    ended_whole counts (Ok x) r runs closes = ended_by_closing (whole_effect output counts_of) (λ es. counts ≡ counts_of es) x [] counts runs (runs.ends.holds, refl) r (inl ((refl, refl), closes))
    ended_whole counts (Err fault) r runs closes = grind arith

  -- the run of a part, which is then closed
  module _ (o : Output) (stands_at : List Entry → StateOf) (t : TableParts) (options : Options) (handed : Option (List ℕ)) (keeper kept : StoreView) where
    abbrev c : Effect
    c = decode_to o stands_at keeper kept

    summary_of : (part : Part) (es : List Entry) → IsPartOf t options (stands_at es) part → IsWrittenUnlessFailed errors summed (summary_text part.counts)
        → IsWrittenUnlessFailed errors summed (summary_text (c.counts es))
    summary_of part es is written = subst (λ n. IsWrittenUnlessFailed errors summed (summary_text n)) is.counted written

    saved_so : (part : Part) (es : List Entry) (unkept : Option SaveError) → IsPartOf t options (stands_at es) part → Replaces keeper kept part.state.items errors.text unkept
        → Replaces keeper kept (c.saving.state es) errors.text unkept
    saved_so part es unkept is keeps = subst (λ s. Replaces keeper kept s errors.text unkept) is.saved keeps

    -- no command that has begun ends by a refusal
    unless : (r : Result Counts Fault) → Ends c before after r → EndsUnlessRefused c before after r
    unless r done = grind arith

    closed : (ended : Result Part PartFault) (r : Result Counts Fault) → IsOfKind ended → RefusedByMemory ended
        → TellsRun o (λ es. HasPart t options ended (stands_at es)) before mid ended → ClosesPart t.id options handed keeper kept errors summed ended r → EndsUnlessRefused c before after r
    closed (Ok part) r kind memory told closes =
        unless r (ended_by_closing c _ tt part.state.items part.counts (told_ok o before mid _ part told) (grind arith) r closes)
    closed (Err (part_faults.Stopped run.Read part)) r kind memory told closes =
        grind (arith, stopped_by_run c _ closes.0 run.Read part.counts.lines (told_stopped o before mid _ run.Read part told), summary_of, saved_so)
    closed (Err (part_faults.Stopped run.TooManyLines part)) r kind memory told closes =
        grind (arith, stopped_by_run c _ None run.TooManyLines part.counts.lines (told_stopped o before mid _ run.TooManyLines part told), summary_of)
    closed (Err (part_faults.Stopped _ part)) r kind memory ran closes = grind arith
    closed (Err (part_faults.Run fault)) r kind memory told closes = grind arith
    closed (Err (part_faults.State fault)) r kind memory ran closes = grind arith
    closed (Err part_faults.Memory) r kind memory told closes = grind (arith, left_at_line c _ told.ran told.ended refl told.runs)

  -- by a table that is taken
  module _ (bytes : List ℕ) (o : Options) (handed : Option (List ℕ)) (keeper kept : StoreView) where
    abbrev t : TableParts
    t = table_of bytes

    rest_of : (prefix : List ℕ) (ended : Result Part PartFault) (r : Result Counts Fault) → Continues t o prefix before mid ended → ClosesPart t.id o handed keeper kept errors summed ended r
        → IfOk r (λ counted. IfSome before.left (λ log. PrintsRest t o prefix log before after keeper kept counted))
    rest_of prefix ended r goes closes = grind (arith, known_more, Appends-trans)

    decoded : (ended : Result Part PartFault) (r : Result Counts Fault) → faults bytes ≡ [] → RunsFrom t o handed before mid ended → ClosesPart t.id o handed keeper kept errors summed ended r
        → Decodes bytes o handed before after keeper kept r
    decoded ended r none runs closes = record {
      judged = grind arith;
      steps = λ s is. grind (arith, closed (output_from (join_fold t o.empty) o.packing s) (after_all (join_fold t o.empty) s) t o handed keeper kept);
      log = λ prefix is. grind (arith, closed (output_after t o prefix) (λ es. state t.id o.window (kind t) (prefix ++ es)) t o handed keeper kept);
      headline = λ prefix is. rest_of prefix ended r (runs.headline prefix is) closes;
    }

-- a run without a state ends as a part whose state is not kept
closed_counted : (id : List ℕ) (o : Options) (handed : Option (List ℕ)) (keeper : StoreView) (errors summed : Place) (part : Part) (ended : Result (Unit {0}) RunFault) (r : Result Counts Fault) → keeper.name ≡ None
    → ClosesRun true errors summed part.counts ended r → ClosesPart id o handed keeper keeper errors summed (with_part part ended) r
closed_counted id o handed keeper errors summed part ended r unnamed closes = grind arith

-- a command that is closed ends by no fault of its table
by_table : (found : List TableFault) (before after : Devices) (r : Result Counts Fault) (P : Type 0) → found ≡ [] → IfErr r (λ fault. IsRefusal fault → ⊥) → P → ByTable found before after r P
by_table found before after (Ok counts) P none begun done = (none, done)
by_table found before after (Err (Table f)) P none begun done = absurd (begun tt)
by_table found before after (Err _) P none begun done = (none, done)

-- The command that was named does what its run and the closing say.
module _ (task : Subcommand) (bytes : List ℕ) (handed : Option (List ℕ)) (before after : Devices) (errors : Place) (r : Result Counts Fault) where
  abbrev performs_with : Option (List SaveAttempt) → Option (List SaveAttempt) → Subcommand → Type 0
  performs_with had has k = Performs k bytes handed before after (shelf (save_name k) had) (shelf (save_name k) has) r

  module _ (had : Option (List SaveAttempt)) (counts : Counts) (ended : Result (Unit {0}) RunFault) (closes : ClosesRun false errors (summed before after errors) counts ended r) where
    module _ (is : task ≡ Plain) (runs : Runs plain_output (λ es. counts ≡ plain_counts_of es) before (mid before after errors) ended) where
      pub performs_plain : performs_with had had task
      performs_plain = subst (performs_with had had) (sym is) (refl, ended_whole before after errors plain_output plain_counts_of counts ended r runs closes)

    module _ (interface told : Option Text) (t : TableParts) (is : task ≡ Frames interface) (is_told : told ≡ interface) (read : (faults bytes ≡ []) × (t ≡ table_of bytes))
        (ran : Runs (frames_output t told) (λ es. counts ≡ frame_counts_of (kind t) told es) before (mid before after errors) ended) where
      abbrev runs_by : TableParts → Option Text → Type 0
      runs_by t i = Runs (frames_output t i) (λ es. counts ≡ frame_counts_of (kind t) i es) before (mid before after errors) ended

      ran_frames : runs_by (table_of bytes) interface
      ran_frames = subst (runs_by (table_of bytes)) is_told (subst (λ t. runs_by t told) read.1 ran)

      pub performs_frames : IfErr r (λ fault. IsRefusal fault → ⊥) → performs_with had had task
      performs_frames begun = subst (performs_with had had) (sym is) (
        refl,
        by_table (faults bytes) before after r _ read.0 begun
            (ended_whole before after errors (frames_output (table_of bytes) interface) (frame_counts_of (kind (table_of bytes)) interface) counts ended r ran_frames closes),
      )

  module _ (had has : Option (List SaveAttempt)) (o : Options) (save : Option Text) (t : TableParts) (is : task ≡ Decode o save) (read : (faults bytes ≡ []) × (t ≡ table_of bytes)) where
    pub performs_decode : (ended : Result Part PartFault) → RunsFrom t o handed before (mid before after errors) ended → ClosesPart t.id o handed (shelf save had) (shelf save has) errors (summed before after errors) ended r → performs_with had has task
    performs_decode ended ran closes = subst (performs_with had has) (sym is) (decoded before after errors bytes o handed (shelf save had) (shelf save has) ended r read.0
        (subst (λ t. RunsFrom t o handed before (mid before after errors) ended) read.1 ran)
        (subst (λ t. ClosesPart t.id o handed (shelf save had) (shelf save has) errors (summed before after errors) ended r) read.1 closes))

  -- without a state that is given or kept
  module _ (had : Option (List SaveAttempt)) (o : Options) (save : Option Text) (unsaved : save ≡ None) (t : TableParts) (is : task ≡ Decode o save) (read : (faults bytes ≡ []) × (t ≡ table_of bytes)) (new : handed ≡ None) where
    pub performs_counted : (counts : Counts) (ended : Result (Unit {0}) RunFault) → (part : Part) × (part.counts ≡ counts) × RunsFrom t o None before (mid before after errors) (with_part part ended) → ClosesRun true errors (summed before after errors) counts ended r
        → performs_with had had task
    performs_counted counts ended (part, same, ran) closes = performs_decode had had o None t (subst (λ save. task ≡ Decode o save) unsaved is) read (with_part part ended) (subst (λ handed. RunsFrom t o handed before (mid before after errors) (with_part part ended)) (sym new) ran)
        (closed_counted t.id o handed (shelf None had) errors (summed before after errors) part ended r refl (subst (λ n. ClosesRun true errors (summed before after errors) n ended r) (sym same) closes))

-- the table is refused
pub refused : (task : Subcommand) (bytes : List ℕ) (handed : Option (List ℕ)) (at : Devices) (had : Option (List SaveAttempt)) (fault : TableFault) → (fault ≢ table_faults.Memory → Contains (faults bytes) fault) → task ≢ Plain
    → Performs task bytes handed at at (shelf (save_name task) had) (shelf (save_name task) had) (Err (Table fault))
refused Plain bytes handed at had fault stands some = absurd (some refl)
refused (Decode o save) bytes handed at had fault stands some = record { judged = stands; steps = λ s begun. tt; log = λ prefix begun. tt; headline = λ prefix begun. tt }
refused (Frames interface) bytes handed at had fault stands some = (refl, (stands, refl))
refused (Encode nearest) bytes handed at had fault stands some = (refl, (stands, refl))
