-- More of a log in memory: how the run over it ends.
use Rattle.std.proofs.Common.{◌≡◌, ◌⊎◌, ℕ, ◌+◌, ◌<◌, ◌≤◌, List, ◌∷◌, ◌++◌, length, length-append, arith, Option, Some, Result, Ok, Err, ap, ◌∙◌, sym}
use Rattle.std.specs.Io.{IsEmptyOrEndsWith}
use Rattle.n2k_wire.specs.declared.entry.Entry.{Entry}
use Rattle.n2k_table.specs.Table.{TableParts, kind}
use Rattle.n2k_join.specs.Counts.{most_lines}
use Rattle.n2k_join.specs.State.{State, state}
use Rattle.n2k_run.specs.declared.fault.RunFault.{RunFault}
use Rattle.n2k_run.specs.declared.fault.RunFault.TheVariants.{Read, Write, Report, Memory, TooManyLines}
use Rattle.n2k_run.specs.declared.options.Options.{Options}
use Rattle.n2k_run.specs.Decoded.{output_after}
use Rattle.n2k_run.specs.Device.{HasFailed}
use Rattle.n2k_run.specs.Entries.{entries}
use Rattle.n2k_run.specs.Inner.Parts.{PartLeft}
use Rattle.n2k_run.specs.Lines.{line_feed}
use Rattle.n2k_run.specs.More.{EndsMore, TakesMore}
use Rattle.n2k_run.specs.Parts.{with_source}
use Rattle.n2k_run.specs.Reading.{OutlastsReads, ReadsBytes, most_reads}
use Rattle.n2k_run.specs.Runs.{Devices, Runs}
use Rattle.n2k_run.proofs.Calls.{came_within}
use Rattle.n2k_run.proofs.Ending.{of_log}
use Rattle.n2k_run.proofs.GoingOn.{both, output-on, reports-on}
use Rattle.n2k_run.proofs.LogSteps.{LogLaws}

-- the read limit of a source that never fails is reached only if it has as many bytes
many_bytes : {P : Type 0} (log : List ℕ) (left : Option (List ℕ)) (calls : ℕ) → ReadsBytes 1 (Some log) left 0 calls → HasFailed 0 0 ⊎ (OutlastsReads 0 calls × P) → most_reads ≤ length log + 1
many_bytes log left calls reads h = grind (arith, came_within)

module _ (t : TableParts) (o : Options) (laws : LogLaws o.window) (prefix : List ℕ) (whole : IsEmptyOrEndsWith prefix line_feed) where
  -- the prefix and the taken lines are the most lines, and one more follows
  past_limit : (more : List ℕ) (taken : List Entry) (next : Entry) (rest : List Entry) → entries o.packing more ≡ taken ++ next ∷ rest → length (entries o.packing prefix) + length taken ≡ most_lines → most_lines < length (entries o.packing (prefix ++ more))
  past_limit more taken next rest is full = grind (arith, both, length-append)

  takes_more : (more : List ℕ) (before after : Devices) (calls : ℕ) (left : Option (List ℕ)) (join : State) (x : Unit {0})
      → Runs (output_after t o (entries o.packing prefix)) (λ es. join ≡ state t.id o.window (kind t) (entries o.packing prefix ++ es)) (with_source before (Some more) 0 0) (with_source after left calls 0) (Ok x)
      → TakesMore t o prefix more before after join
  takes_more more before after calls left join x runs =
      let made : List ℕ → Type 0 = λ came. TakesMore t o prefix came before after join in
      of_log _ _ _ _ made runs.ends (record {
        text = (output_after t o (entries o.packing prefix)).texts (entries o.packing runs.ends.came);
        printed = runs.ends.gained.printed;
        output = output-on t o laws prefix whole runs.ends.came;
        report = (output_after t o (entries o.packing prefix)).reports (entries o.packing runs.ends.came);
        reported = runs.ends.gained.reported;
        all_reports = reports-on t o laws prefix whole runs.ends.came;
        leads_to = runs.ends.holds ∙ ap (state t.id o.window (kind t)) (sym (both t o laws prefix whole runs.ends.came));
      })

  ends_from : (more : List ℕ) (before after : Devices) (calls : ℕ) (left : Option (List ℕ)) (join : State) (result : Result (Unit {0}) RunFault)
      → Runs (output_after t o (entries o.packing prefix)) (λ es. join ≡ state t.id o.window (kind t) (entries o.packing prefix ++ es)) (with_source before (Some more) 0 0) (with_source after left calls 0) result
      → EndsMore t o prefix more before after join result
  ends_from more before after calls left join (Ok x) runs = takes_more more before after calls left join x runs
  ends_from more before after calls left join (Err Read) runs = many_bytes more left calls runs.reads runs.device.reads
  ends_from more before after calls left join (Err Write) runs = runs.device.writes
  ends_from more before after calls left join (Err Report) runs = runs.device.reports
  ends_from more before after calls left join (Err TooManyLines) runs = past_limit more runs.ends.taken runs.ends.left.0 runs.ends.left.1 runs.ends.left.2 runs.ends.full
  ends_from more before after calls left join (Err Memory) runs = tt

  pub ends_more : (more : List ℕ) (reader : PartLeft) (before after : Devices) (calls : ℕ) (left : Option (List ℕ)) (join : State) (result : Result (Unit {0}) RunFault) → reader ≡ record { left = more; calls = 0 }
      → Runs (output_after t o (entries o.packing prefix)) (λ es. join ≡ state t.id o.window (kind t) (entries o.packing prefix ++ es)) (with_source before (Some reader.left) reader.calls 0) (with_source after left calls 0) result
      → EndsMore t o prefix more before after join result
  ends_more more reader before after calls left join result is runs = grind (arith, ends_from)
