-- More lines, decoded or encoded, and what is reported of those so far.
use Rattle.std.proofs.Common.{◌≡◌, ℕ, ◌+◌, ◌<◌, Bool, List, [], ◌++◌, length, None, Some, Result, Ok, Err, refl, sym, ap, subst, ◌∙◌, arith, length-append}
use Rattle.std.specs.Io.{IsEmptyOrEndsWith}
use Rattle.std.proofs.lemmas.Grind.{flat_map-append}
use Rattle.std.proofs.lemmas.List.{length-map}
use Rattle.n2k_wire.specs.declared.entry.Packing.{Packing}
use Rattle.n2k_wire.specs.Entry.{entry}
use Rattle.n2k_table.specs.Table.{TableParts}
use Rattle.n2k_join.specs.Counts.{most_lines}
use Rattle.n2k_join.specs.Saved.{state_text}
use Rattle.n2k_join.specs.State.{State}
use Rattle.n2k_join.specs.Window.{Window}
use Rattle.n2k_join.specs.declared.counts.Counts.{Counts}
use Rattle.n2k_run.specs.declared.fault.RunFault.{RunFault}
use Rattle.n2k_run.specs.declared.fault.RunFault.TheVariants as of_run
use Rattle.n2k_run.specs.declared.options.Options.{Options}
use Rattle.n2k_run.specs.Entries.{entries}
use Rattle.n2k_run.specs.Headline.{save, state_after}
use Rattle.n2k_run.specs.Lines.{line_feed, lines}
use Rattle.n2k_run.specs.More.{EndsMore}
use Rattle.n2k_run.specs.Runs.{Devices}
use Rattle.n2k_run.proofs.Splits.{lines-append}
use Rattle.n2k_encode_run.specs.More.{EncodesMore, EncodingParts, TakesMore}
use Rattle.n2k_encode_run.specs.Outcomes.{Outcome, GiveAll, counts_after, counts_of, reports_from, text_of, texts}
use Rattle.n2k_encode_run.proofs.Feeding.{count_lines, counts_append, give_all_append, reports_append}
use Rattle.n2k_encode_run.proofs.More.{as_many}
use Rattle.n2k_c.specs.declared.work.Decoding.{Decoding}
use Rattle.n2k_c.specs.declared.work.Work.TheVariants.{Decodes, Encodes}
use Rattle.n2k_c.specs.Inner.{Gains, IsSavedOf, RunsMore}
use Rattle.n2k_c.specs.Job.{AreCounts, Job, decoding, encoding}
use Rattle.n2k_c.specs.Stands.{IsAfter}

-- the devices of a run whose sinks are what waits
abbrev pub sinks : List ℕ → List ℕ → ℕ → ℕ → Devices
sinks output report failed_writes failed_reports = record {
  left = None;
  calls = 0;
  failed_reads = 0;
  written = Some output;
  failed_writes = failed_writes;
  reported = Some report;
  failed_reports = failed_reports;
}

-- ---- a decoder

options_are : (p : Packing) (e : Bool) (w : Window) (o : Options) → p ≡ o.packing → e ≡ o.empty → w ≡ o.window → (let x : Options = record { packing = p; empty = e; window = w } in x) ≡ o
options_are p e w o is_p is_e is_w = rw (is_p, is_e, is_w) refl

-- what a run over more promises, after each prefix
More : TableParts → Options → State → List ℕ → Devices → Devices → State → Result (Unit {0}) RunFault → Type 0
More t o old more before after new result = (prefix : List ℕ) → IsEmptyOrEndsWith prefix line_feed → old ≡ state_after t o prefix → EndsMore t o prefix more before after new result

-- one entry a line
as_many_entries : (p : Packing) (bytes : List ℕ) → length (entries p bytes) ≡ length (lines bytes)
as_many_entries p bytes = length-map (lines bytes) (λ line. entry line p)

module _ (t : TableParts) (o : Options) (taken more : List ℕ) (d d' : Decoding) (output output' waiting waiting' : List ℕ) (fw fr fw' fr' : ℕ) where
  ends_decoded : (result : Result (Unit {0}) RunFault) → d'.packing ≡ d.packing → d'.empty ≡ d.empty → IsAfter t (decoding o) taken (Decodes d)
      → EndsMore t o taken more (sinks output waiting fw fr) (sinks output' waiting' fw' fr') d'.join result → RunsMore t (decoding o) taken more (Decodes d') output output' waiting waiting' result
  ends_decoded (Ok x) same_p same_e after m = record {
    leads_to = (same_p ∙ after.0, same_e ∙ after.1, m.leads_to);
    text = m.text;
    printed = m.printed;
    output_is = λ before is. m.output ∙ ap (λ x. x ++ m.text) is;
    report = m.report;
    reported = m.reported;
    reports_are = λ before is. m.all_reports ∙ ap (λ x. x ++ m.report) is;
  }
  ends_decoded (Err of_run.TooManyLines) same_p same_e after m = subst (λ n. most_lines < n) (as_many_entries o.packing (taken ++ more)) m
  ends_decoded (Err of_run.Read) same_p same_e after m = (tt, m)
  ends_decoded (Err _) same_p same_e after m = tt

pub decodes_more : (t : TableParts) (job : Job) (taken more : List ℕ) (d d' : Decoding) (output output' waiting waiting' : List ℕ) (fw fr fw' fr' : ℕ) (window : Window) (result : Result (Unit {0}) RunFault)
    → window ≡ d.join.window → d'.packing ≡ d.packing → d'.empty ≡ d.empty
    → ((prefix : List ℕ) → IsEmptyOrEndsWith prefix line_feed → d.join ≡ state_after t (record { packing = d.packing; empty = d.empty; window = window }) prefix
    → EndsMore t (record { packing = d.packing; empty = d.empty; window = window }) prefix more (sinks output waiting fw fr) (sinks output' waiting' fw' fr') d'.join result)
    → IsEmptyOrEndsWith taken line_feed → IsAfter t job taken (Decodes d) → RunsMore t job taken more (Decodes d') output output' waiting waiting' result
unfolding More
decodes_more t (encoding nearest) taken more d d' output output' waiting waiting' fw fr fw' fr' window result is_window same_p same_e head whole after = absurd after
decodes_more t (decoding o) taken more d d' output output' waiting waiting' fw fr fw' fr' window result is_window same_p same_e head whole after =
    let own : Options = record { packing = d.packing; empty = d.empty; window = window } in
    let old : Devices = sinks output waiting fw fr in
    let new : Devices = sinks output' waiting' fw' fr' in
    let is_o : own ≡ o = options_are d.packing d.empty window o after.0 after.1 (is_window ∙ ap (λ (s : State). s.window) after.2) in
    let h : More t own d.join more old new d'.join result = head in
    let h' = subst (λ (x : Options). More t x d.join more old new d'.join result) is_o h in
    ends_decoded t o taken more d d' output output' waiting waiting' fw fr fw' fr' result same_p same_e after (h' taken whole after.2)

-- ---- an encoder

module _ (t : TableParts) (nearest : Bool) (taken more : List ℕ) (whole : IsEmptyOrEndsWith taken line_feed) (e e' : EncodingParts) (after : IsAfter t (encoding nearest) taken (Encodes e)) where
  counted : e.counts.lines ≡ length (lines taken)
  counted = omega (arith, ap (λ (c : Counts). c.lines) after.1.2, count_lines (counts_of []) after.1.0, as_many t nearest (lines taken) after.1.0 after.1.1)

  module _ (output output' waiting waiting' : List ℕ) (fw fr fw' fr' : ℕ) where
    gains_encoded : TakesMore t more e e' (sinks output waiting fw fr) (sinks output' waiting' fw' fr') → Gains t (encoding nearest) taken more (Encodes e') output output' waiting waiting'
    gains_encoded m =
        let joined : (os : List Outcome) → GiveAll t nearest (lines taken) os → GiveAll t nearest (lines (taken ++ more)) (os ++ m.outcomes) = λ os given.
        subst (λ ls. GiveAll t nearest ls (os ++ m.outcomes)) (sym (lines-append taken more whole)) (give_all_append t nearest (lines taken) (lines more) os m.outcomes given (subst (λ b. GiveAll t b (lines more) m.outcomes) after.0 m.given)) in
        record {
          leads_to = (
            ap (λ (x : EncodingParts). x.nearest) m.is ∙ after.0,
            (after.1.0 ++ m.outcomes, joined after.1.0 after.1.1, ap (λ (x : EncodingParts). x.counts) m.is ∙ ap (λ (c : Counts). counts_after c m.outcomes) after.1.2 ∙ counts_append (counts_of []) after.1.0 m.outcomes),
          );
          text = texts m.outcomes;
          printed = m.printed;
          output_is = λ before is. (is.0 ++ m.outcomes, joined is.0 is.1, flat_map-append text_of is.0 m.outcomes ∙ ap (λ x. x ++ texts m.outcomes) is.2);
          report = reports_from (e.counts.lines + 1) m.outcomes;
          reported = m.reported;
          reports_are = λ before is.
              let from : 1 + length is.0 ≡ e.counts.lines + 1 = omega (arith, counted, as_many t nearest (lines taken) is.0 is.1) in
              (is.0 ++ m.outcomes, joined is.0 is.1, reports_append 1 is.0 m.outcomes ∙ ap (λ n. reports_from 1 is.0 ++ reports_from n m.outcomes) from ∙ ap (λ x. x ++ reports_from (e.counts.lines + 1) m.outcomes) is.2);
        }

    ends_encoded : (result : Result (Unit {0}) RunFault) → EncodesMore t more e e' (sinks output waiting fw fr) (sinks output' waiting' fw' fr') result → RunsMore t (encoding nearest) taken more (Encodes e') output output' waiting waiting' result
    ends_encoded (Ok x) m = gains_encoded m
    ends_encoded (Err of_run.TooManyLines) m = omega (arith, m.2, counted, ap length (lines-append taken more whole), length-append (lines taken) (lines more))
    ends_encoded (Err of_run.Read) m = absurd m
    ends_encoded (Err _) m = tt

pub encodes_more : (t : TableParts) (job : Job) (taken more : List ℕ) (e e' : EncodingParts) (output output' waiting waiting' : List ℕ) (fw fr fw' fr' : ℕ) (result : Result (Unit {0}) RunFault)
    → EncodesMore t more e e' (sinks output waiting fw fr) (sinks output' waiting' fw' fr') result
    → IsEmptyOrEndsWith taken line_feed → IsAfter t job taken (Encodes e) → RunsMore t job taken more (Encodes e') output output' waiting waiting' result
encodes_more t (decoding o) taken more e e' output output' waiting waiting' fw fr fw' fr' result m whole after = absurd after
encodes_more t (encoding nearest) taken more e e' output output' waiting waiting' fw fr fw' fr' result m whole after =
    ends_encoded t nearest taken more whole e e' after output output' waiting waiting' fw fr fw' fr' result m

-- ---- what is reported of the lines so far

pub counts_decoded : (t : TableParts) (job : Job) (taken : List ℕ) (d : Decoding) (c : Counts) → c ≡ d.join.counts → IsAfter t job taken (Decodes d) → AreCounts t job taken c
counts_decoded t (decoding o) taken d c is after = is ∙ ap (λ (s : State). s.counts) after.2
counts_decoded t (encoding nearest) taken d c is after = absurd after

pub counts_encoded : (t : TableParts) (job : Job) (taken : List ℕ) (e : EncodingParts) (c : Counts) → c ≡ e.counts → IsAfter t job taken (Encodes e) → AreCounts t job taken c
counts_encoded t (decoding o) taken e c is after = absurd after
counts_encoded t (encoding nearest) taken e c is after = (after.1.0, after.1.1, is ∙ after.1.2)

pub saved_decoded : (text : List ℕ) (d : Decoding) → text ≡ state_text d.join → IsSavedOf text (Decodes d)
unfolding save
saved_decoded text d is = record { decodes = refl; is = λ t o taken after. is ∙ ap state_text after.2 }
