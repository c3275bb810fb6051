-- Parts in memory, taken in order.
use Rattle.std.proofs.Common.{◌≡◌, ℕ, List, [], ◌∷◌, ◌++◌, arith, length, length-append, map, Option, Some, None, Result, Ok, Err, refl, sym, ap, ◌∙◌, subst, append-nil, ◌⊎◌, ◌+◌, IfOk, inl, inr, ◌<◌, get_or, take, drop, suc, Bor}
use Rattle.std.specs.List.{All, concat}
use Rattle.std.proofs.lemmas.List.{get_or_at, map-append, take-append-drop}
use Rattle.std.proofs.Math.Seq.{drop-cons}
use Rattle.std.specs.Io.KnownBytes.{Appends}
use Rattle.std.proofs.KnownBytes.{Appends-trans}
use Rattle.std.proofs.lemmas.Grind.{flat_map-append}
use Rattle.n2k_wire.specs.declared.entry.Entry.{Entry}
use Rattle.n2k_table.specs.Table.{TableParts, kind}
use Rattle.n2k_join.specs.Saved.{IsId}
use Rattle.n2k_join.specs.State.{State, state}
use Rattle.n2k_join.specs.Window.{IsWindow}
use Rattle.n2k_run.specs.declared.options.Options.{Options}
use Rattle.n2k_run.specs.declared.part.Part.{Part}
use Rattle.n2k_run.specs.declared.part.PartFault.{PartFault}
use Rattle.n2k_run.specs.declared.part.PartFault.TheVariants.{Stopped}
use Rattle.n2k_run.specs.Decoded.{out, out_of, output_after, reports, reports_of}
use Rattle.n2k_run.specs.Entries.{entries}
use Rattle.n2k_run.specs.Inner.Parts.{PartLeft, Saves}
use Rattle.n2k_run.specs.Headline.{AreCutAtLines, PrintsLog, save}
use Rattle.n2k_run.specs.Parts.{AreWithinReads, BeginsBy, EndsParts, IsNotRead, IsPartOf, OnRefusal, RefusedByMemory, RunsPart, TakesAll, TellsRun, begun, entries_of_parts, with_source, HasPart}
use Rattle.n2k_run.specs.declared.fault.RunFault.TheVariants.{Read}
use Rattle.n2k_run.specs.Device.{HasFailed}
use Rattle.n2k_run.specs.Reading.{OutlastsReads, most_reads}
use Rattle.n2k_run.specs.Runs.{Devices, Gained, Output, ReadFails, Runs}
use Rattle.n2k_run.proofs.Calls.{end_found}
use Rattle.n2k_run.proofs.Ending.{of_log}
use Rattle.n2k_run.proofs.Prefixes.{entries-append}
use Rattle.n2k_run.proofs.GoingOn.{out_of-append, reports_of-append}
use Rattle.n2k_run.proofs.LogSteps.{LogLaws}
use Rattle.n2k_run.proofs.Parting.{KeepsFast, begun-under, told_ok}

-- before the first part
pub empty-of : (laws : KeepsFast) (t : TableParts) (o : Options) → IsWindow o.window.lines → (join : State) {E : Type 0} (result : Result Part E) → IsId t.id → join ≡ state t.id o.window (kind t) [] → IfOk result (Saves join) → IfOk result (IsPartOf t o (state t.id o.window (kind t) []))
empty-of laws t o window join result id is saves = grind (arith, begun-under laws t o window None (state t.id o.window (kind t) []) refl)

pub refused_memory : (t : TableParts) (o : Options) (handed : Option (List ℕ)) (s : State) (result : Result Part PartFault) → begun t o handed ≡ Ok s → BeginsBy t o handed result → RefusedByMemory result
refused_memory t o handed s result is begins = grind arith

entries_next : (o : Options) (done : List (List ℕ)) (met : List ℕ) → entries_of_parts o (done ++ met ∷ []) ≡ entries_of_parts o done ++ entries o.packing met
entries_next o done met = flat_map-append (entries o.packing) done (met ∷ []) ∙ ap (λ es. entries_of_parts o done ++ es) (append-nil (entries o.packing met))

module _ (t : TableParts) (o : Options) (laws : LogLaws o.window) where
  -- one part more was taken whole
  pub next_taken : (done : List (List ℕ)) (met : List ℕ) (before between after : Devices) (last next : Part) → TakesAll t o done before between last → RunsPart t o (entries_of_parts o done) met between after (Ok next) → TakesAll t o (done ++ met ∷ []) before after next
  next_taken done met before between after last next so_far run =
      let prefix = entries_of_parts o done in
      let es = entries o.packing met in
      let all : prefix ++ es ≡ entries_of_parts o (done ++ met ∷ []) = sym (entries_next o done met) in
      let ran = told_ok _ _ _ _ next run.run in
      let gained = of_log _ _ _ _ (λ log. Gained (output_after t o prefix) (with_source between (Some met) 0 0) (with_source after run.left run.calls 0) (entries o.packing log)) ran.ends ran.ends.gained in
      let text : Appends before.written after.written (out_of t o (prefix ++ es)) =
      subst (Appends before.written after.written) (sym (out_of-append t o laws prefix es)) (Appends-trans before.written between.written after.written _ _ so_far.taken.printed gained.printed) in
      let report : Appends before.reported after.reported (reports_of t o (prefix ++ es)) =
      subst (Appends before.reported after.reported) (sym (reports_of-append t o laws prefix es)) (Appends-trans before.reported between.reported after.reported _ _ so_far.taken.reported gained.reported) in
      record {
        taken = record {
          printed = subst (λ es. Appends before.written after.written (out_of t o es)) all text;
          reported = subst (λ es. Appends before.reported after.reported (reports_of t o es)) all report;
          writes = ran.device.writes ∙ so_far.taken.writes;
          report_writes = ran.device.reports ∙ so_far.taken.report_writes;
        };
        leads_to = subst (λ es. IsPartOf t o (state t.id o.window (kind t) es) next) all (of_log _ _ _ _ (λ log. IsPartOf t o (state t.id o.window (kind t) (prefix ++ entries o.packing log)) next) ran.ends ran.ends.holds);
      }

-- if the state is refused, both sinks are unchanged
pub both_untouched : {W E : Type 0} (P : Type 0) (result : Result Part PartFault) (w w' : W) (e e' : E) (seen : W → E → Devices) → OnRefusal result (P × (w' ≡ w) × (e' ≡ e)) → OnRefusal result (seen w' e' ≡ seen w e)
both_untouched P result w w' e e' seen same = grind arith

-- the run of a part reads from its source in memory
pub runs_part : (t : TableParts) (o : Options) (prefix : List Entry) (met : List ℕ) (reader : PartLeft) (before after : Devices) (left : Option (List ℕ)) (calls : ℕ) (result : Result Part PartFault) → reader ≡ record { left = met; calls = 0 }
    → TellsRun (output_after t o prefix) (λ es. HasPart t o result (state t.id o.window (kind t) (prefix ++ es))) (with_source before (Some reader.left) reader.calls 0) (with_source after left calls 0) result → OnRefusal result (after ≡ before) → RunsPart t o prefix met before after result
runs_part t o prefix met reader before after left calls result is told untouched = grind arith

-- a property of all parts holds of one of them
part_met : (P : List ℕ → Type 0) (parts done : List (List ℕ)) (met : List ℕ) (later : List (List ℕ)) → All P parts → parts ≡ done ++ met ∷ later → P met
part_met P parts done met later all is = grind (arith, get_or_at done met later [] (length done) refl, length-append done (met ∷ later))

-- the source of a part never fails, and its end is found
not_stopped : (o : Output) (stands : List Entry → Type 0) (met : List ℕ) (before after : Devices) (left : Option (List ℕ)) (calls : ℕ) → length met + 1 < most_reads → Runs {T = Unit {0}} o stands (with_source before (Some met) 0 0) (with_source after left calls 0) (Err Read) → ⊥
not_stopped o stands met before after left calls few runs =
    let device : ReadFails (with_source before (Some met) 0 0) (with_source after left calls 0) = runs.device in
    end_found met left calls few runs.reads (elim device.reads as (λ _. HasFailed 0 0 ⊎ OutlastsReads 0 calls) [ inl failed ↦ inl failed | inr outlasts ↦ inr outlasts.0 ])

pub not_read : (t : TableParts) (o : Options) (parts : List (List ℕ)) (before after : Devices) (result : Result Part PartFault) → AreWithinReads parts → EndsParts t o parts before after result → IsNotRead result
not_read t o parts before after (Err (Stopped fault part)) few (inl end) = cc
not_read t o parts before after (Err (Stopped fault part)) few (inr end) = grind (arith, part_met (λ met. length met + 1 < most_reads) parts end.done end.met end.later few end.parts_are, not_stopped)
not_read t o parts before after _ few end = tt

-- the parts before a part, the part, and the parts after it
pub split_parts : (parts : List (Bor (List ℕ))) (i : ℕ) (d : Bor (List ℕ)) → i < length parts → map (λ (p : Bor (List ℕ)). p.now) parts ≡ map (λ (p : Bor (List ℕ)). p.now) (take i parts) ++ (get_or parts i d).now ∷ map (λ (p : Bor (List ℕ)). p.now) (drop (suc i) parts)
split_parts parts i d within = grind (arith, take-append-drop i parts, drop-cons parts i d within, map-append (λ (p : Bor (List ℕ)). p.now) (take i parts) (get_or parts i d ∷ drop (suc i) parts))

-- ---- a log that was cut after lines

cut_entries : (o : Options) (parts : List (List ℕ)) → AreCutAtLines parts → entries_of_parts o parts ≡ entries o.packing (concat parts)
cut_entries o [] cut = refl
cut_entries o (part ∷ []) cut = append-nil (entries o.packing part) ∙ ap (entries o.packing) (sym (append-nil part))
cut_entries o (part ∷ next ∷ parts) cut = grind (arith, cut_entries o (next ∷ parts) cut.1, entries-append)

pub prints_log : (t : TableParts) (o : Options) (parts : List (List ℕ)) (before after : Devices) (part : Part) → AreCutAtLines parts → TakesAll t o parts before after part → PrintsLog t o (concat parts) before after part
unfolding out reports save
prints_log t o parts before after part cut all =
    let same = cut_entries o parts cut in
    let is : IsPartOf t o (state t.id o.window (kind t) (entries o.packing (concat parts))) part = subst (λ es. IsPartOf t o (state t.id o.window (kind t) es) part) same all.leads_to in
    record {
      printed = subst (λ es. Appends before.written after.written (out_of t o es)) same all.taken.printed;
      reported = subst (λ es. Appends before.reported after.reported (reports_of t o es)) same all.taken.reported;
      saved = is.saved;
      counted = is.counted;
    }
