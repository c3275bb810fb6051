-- The output and the reports of a log after those of its prefix.
use Rattle.std.proofs.Common.{◌≡◌, ℕ, zero, suc, ◌+◌, ◌<◌, ◌≤◌, List, [], ◌∷◌, ◌++◌, length, Result, Ok, Err, refl, sym, ap, ◌∙◌, subst, length-append, arith, slice_get, inl, inr}
use Rattle.std.specs.List.{flat_map, range_with_len}
use Rattle.std.specs.Io.{IsEmptyOrEndsWith}
use Rattle.std.proofs.lemmas.Grind.{flat_map-append}
use Rattle.n2k_wire.specs.declared.entry.Entry.{Entry}
use Rattle.n2k_table.specs.Table.{TableParts, kind}
use Rattle.n2k_join.proofs.Rising.{range-append}
use Rattle.n2k_join.specs.declared.fault.StateFault.{StateFault}
use Rattle.n2k_join.specs.declared.fault.StateFault.TheVariants as state_faults
use Rattle.n2k_join.specs.Counts.{most_lines}
use Rattle.n2k_join.specs.Messages.{entry_at, numbers}
use Rattle.n2k_join.specs.State.{state}
use Rattle.n2k_run.specs.declared.fault.RunFault.TheVariants as run_faults
use Rattle.n2k_run.specs.declared.options.Options.{Options}
use Rattle.n2k_run.specs.declared.part.Part.{Part}
use Rattle.n2k_run.specs.declared.part.PartFault.{PartFault}
use Rattle.n2k_run.specs.declared.part.PartFault.TheVariants.{State as Refused, Stopped, Run, Memory}
use Rattle.n2k_run.specs.Decoded.{numbers_after, out, out_of, output_after, report_at, reports, reports_of, text_of_line}
use Rattle.n2k_run.specs.Entries.{entries}
use Rattle.n2k_run.specs.Lines.{line_feed}
use Rattle.n2k_run.specs.Headline.{save, state_after}
use Rattle.n2k_run.specs.Parts.{Continues, GoesOn, GoesOnPartly, GoesOnToLimit, HasPart, IsOfKind, IsPartOf, TellsRun}
use Rattle.n2k_run.specs.Runs.{Devices, Gained, HasPrefixes}
use Rattle.n2k_run.proofs.Prefixes.{entries-append}
use Rattle.n2k_run.proofs.LimitLines.{taken_bytes}
use Rattle.n2k_run.proofs.LogSteps.{LogLaws, broken_stay, messages_stay}
use Rattle.n2k_run.proofs.Parting.{line_prefixes, told_ok, told_run}
use Rattle.n2k_run.proofs.Ending.{of_log}
use Rattle.n2k_run.proofs.Running.{known_more}

same_on : (f g : ℕ → List ℕ) (a n : ℕ) → ((i : ℕ) → a ≤ i → i < a + n → f i ≡ g i) → flat_map f (range_with_len a n) ≡ flat_map g (range_with_len a n)
same_on f g a zero same = refl
same_on f g a (suc n) same = grind (arith, same_on f g (a + 1) n (λ i low high. same i (omega (arith, low)) (omega (arith, high))))

numbers-append : (prefix es : List Entry) → numbers (prefix ++ es) ≡ numbers prefix ++ numbers_after prefix es
numbers-append prefix es = grind (arith, length-append, range-append)

-- the values for the lines of both, if the lines of the prefix keep theirs
parts_of : (f g : ℕ → List ℕ) (prefix es : List Entry) → ((i : ℕ) → 1 ≤ i → i ≤ length prefix → f i ≡ g i) → flat_map f (numbers (prefix ++ es)) ≡ flat_map g (numbers prefix) ++ flat_map f (numbers_after prefix es)
parts_of f g prefix es same = grind (arith, numbers-append, flat_map-append, same_on)

get_stays : (prefix es : List Entry) (k : ℕ) → k < length prefix → slice_get (prefix ++ es) k ≡ slice_get prefix k
get_stays [] es k below = absurd (omega (arith, below))
get_stays (e ∷ prefix) es zero below = refl
get_stays (e ∷ prefix) es (suc k) below = get_stays prefix es k (omega (arith, below))

entry_stays : (prefix es : List Entry) (i : ℕ) → i ≤ length prefix → entry_at (prefix ++ es) i ≡ entry_at prefix i
entry_stays prefix es zero within = refl
entry_stays prefix es (suc k) within = get_stays prefix es k (omega (arith, within))

module _ (t : TableParts) (o : Options) (laws : LogLaws o.window) where
  pub out_of-append : (prefix es : List Entry) → out_of t o (prefix ++ es) ≡ out_of t o prefix ++ flat_map (text_of_line t o (prefix ++ es)) (numbers_after prefix es)
  out_of-append prefix es = grind (arith, parts_of, messages_stay)

  report_stays : (prefix es : List Entry) (i : ℕ) → i ≤ length prefix → report_at t o (prefix ++ es) i ≡ report_at t o prefix i
  report_stays prefix es i high = grind (arith, broken_stay, entry_stays)

  pub reports_of-append : (prefix es : List Entry) → reports_of t o (prefix ++ es) ≡ reports_of t o prefix ++ flat_map (report_at t o (prefix ++ es)) (numbers_after prefix es)
  reports_of-append prefix es = parts_of (report_at t o (prefix ++ es)) (report_at t o prefix) prefix es (λ i low high. report_stays prefix es i high)

  module _ (prefix : List ℕ) (whole : IsEmptyOrEndsWith prefix line_feed) where
    pub both : (more : List ℕ) → entries o.packing (prefix ++ more) ≡ entries o.packing prefix ++ entries o.packing more
    both more = entries-append o.packing prefix more whole

    pub output-on : (more : List ℕ) → out t o (prefix ++ more) ≡ out t o prefix ++ (output_after t o (entries o.packing prefix)).texts (entries o.packing more)
    unfolding out
    output-on more = ap (out_of t o) (both more) ∙ out_of-append (entries o.packing prefix) (entries o.packing more)

    pub reports-on : (more : List ℕ) → reports t o (prefix ++ more) ≡ reports t o prefix ++ (output_after t o (entries o.packing prefix)).reports (entries o.packing more)
    unfolding reports
    reports-on more = ap (reports_of t o) (both more) ∙ reports_of-append (entries o.packing prefix) (entries o.packing more)

    save-on : (more : List ℕ) (part : Part) → IsPartOf t o (state_after t o (prefix ++ more)) part → part.state.items ≡ save t o (prefix ++ more)
    unfolding save
    save-on more part is = is.saved

    goes_on : (more : List ℕ) (before after : Devices) (part : Part) → Gained (output_after t o (entries o.packing prefix)) before after (entries o.packing more) → IsPartOf t o (state t.id o.window (kind t) (entries o.packing prefix ++ entries o.packing more)) part → GoesOn t o prefix more before after part
    goes_on more before after part gained is = search (both, output-on, reports-on, save-on, arith)

    goes_partly : (more : List ℕ) (before after : Devices) → HasPrefixes (output_after t o (entries o.packing prefix)) before after more → GoesOnPartly t o prefix more before after
    goes_partly more before after prefixes = grind (arith, output-on, reports-on)

    -- the log has more lines than the limit
    to_limit : (log : List ℕ) (before after : Devices) (part : Part) (es : List Entry) (next : Entry) (more : List Entry) → entries o.packing log ≡ es ++ (next ∷ more)
        → length (entries o.packing prefix) + length es ≡ most_lines → Gained (output_after t o (entries o.packing prefix)) before after es
        → IsPartOf t o (state t.id o.window (kind t) (entries o.packing prefix ++ es)) part → GoesOnToLimit t o prefix log before after part
    to_limit log before after part es next more is full gained stands =
        let cut = taken_bytes o.packing es log next more is in
        record {
          taken = cut.bytes;
          rest = cut.rest;
          log_is = cut.log_is;
          more = cut.more;
          whole_lines = cut.whole;
          full = ap length (both cut.bytes ∙ ap (λ x. entries o.packing prefix ++ x) cut.entries_are) ∙ length-append (entries o.packing prefix) es ∙ full;
          goes_on = goes_on cut.bytes before after part
              (subst (λ x. Gained (output_after t o (entries o.packing prefix)) before after x) (sym cut.entries_are) gained)
              (subst (λ x. IsPartOf t o (state t.id o.window (kind t) (entries o.packing prefix ++ x)) part) (sym cut.entries_are) stands);
        }

    -- the headline
    pub continues_of : (before after : Devices) (result : Result Part PartFault) → TellsRun (output_after t o (entries o.packing prefix)) (λ es. HasPart t o result (state t.id o.window (kind t) (entries o.packing prefix ++ es))) before after result
        → IsOfKind result → ((fault : StateFault) → result ≡ Err (Refused fault) → fault ≡ state_faults.Memory) → Continues t o prefix before after result
    continues_of before after (Ok part) told kinds refused =
        let runs = told_ok _ before after _ part told in
        (runs.ends.at_end, of_log _ _ before after _ runs.ends (goes_on runs.ends.came before after part runs.ends.gained runs.ends.holds))
    continues_of before after (Err (Stopped run_faults.Read part)) told kinds refused = grind (arith, goes_on)
    continues_of before after (Err (Stopped run_faults.TooManyLines part)) told kinds refused = grind (arith, known_more, to_limit)
    continues_of before after (Err (Stopped _ part)) runs (inl e) refused = cc
    continues_of before after (Err (Stopped _ part)) runs (inr e) refused = cc
    continues_of before after (Err (Refused fault)) runs kinds refused = refused fault refl
    continues_of before after (Err (Run fault)) told kinds refused = known_more before.left _ _ (λ log prefixes. goes_partly log before after prefixes) (told_run _ before after _ fault told).prefixes
    continues_of before after (Err Memory) told kinds refused = known_more before.left _ _ (λ log prefixes. goes_partly log before after prefixes) (line_prefixes _ before after _ told.ran told.ended told.runs)
