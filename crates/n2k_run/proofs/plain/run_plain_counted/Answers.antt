use Rattle.std.proofs.Common.{arith, ◌≡◌, ◌+◌, false, List, [], ◌∷◌, length, refl, ap, ◌∙◌, count_by}
use Rattle.std.proofs.lemmas.List.Sums.{sum_by-cons}
use Rattle.n2k_wire.specs.declared.entry.Entry.{Entry}
use Rattle.n2k_wire.specs.declared.entry.Packing.TheVariants.{Frames}
use Rattle.n2k_join.specs.declared.counts.Counts.{Counts}
use Rattle.n2k_run.specs.Entries.{is_bad, is_packet}
use Rattle.n2k_run.specs.Plain.{entry_line, plain_counts_of, plain_output}
use Rattle.n2k_run.specs.Fold.{after_all}
use Rattle.n2k_run.specs.Runs.{output_from}
use Rattle.n2k_run.specs.Inner.Counting.{counting_fold}
use Rattle.n2k_run.proofs.Counting.{texts_are, reports_are, counts_from_none}
use Rattle.n2k_run.proofs.Ending.{log_if_ok, output_same, runs_same, runs_more}
use Rattle.n2k_run.proofs.plain.run_plain_counted.Goals as goal

output_is : output_from (counting_fold entry_line is_packet (λ _. false)) Frames (record { lines = 0; messages = 0; bad = 0; unknown = 0; broken = 0; held = 0 }) ≡ plain_output
output_is = grind (arith, output_same, texts_are, reports_are)

none_unknown : (es : List Entry) → count_by (λ (e : Entry). false) es ≡ 0
none_unknown [] = refl
none_unknown (e ∷ es) = sum_by-cons (λ (x : Entry). 0) e es ∙ ap (λ n. 0 + n) (none_unknown es)

counts_are : (es : List Entry) → after_all (counting_fold entry_line is_packet (λ _. false)) (record { lines = 0; messages = 0; bad = 0; unknown = 0; broken = 0; held = 0 }) es ≡ plain_counts_of es
counts_are es =
    counts_from_none entry_line is_packet (λ _. false) es
    ∙ ap (λ n. let c : Counts = record { lines = length es; messages = count_by is_packet es; bad = count_by is_bad es; unknown = n; broken = 0; held = 0 } in c) (none_unknown es)

pub returns-clause-runs : goal.returns-clause-runs
returns-clause-runs g c =
    let runs = runs_same _ _ _ _ _ _ output_is c.run_entries.ensures.runs in
    runs_more plain_output _ _ _ _ _ runs (λ es stands. stands ∙ counts_are es)

pub returns-clause-out : goal.returns-clause-out
returns-clause-out g c =
    let runs = runs_same _ _ _ _ _ _ output_is c.run_entries.ensures.runs in
    log_if_ok plain_output _ _ _ _ _ runs (λ whole. (whole.gained.printed, whole.gained.reported, whole.holds ∙ counts_are _))
