use Rattle.std.proofs.Common.{◌≡◌, ◌+◌, [], ◌++◌, ap, arith, length, subst, sym, ◌∙◌}
use Rattle.std.proofs.lemmas.Grind.{flat_map-append}
use Rattle.n2k_run.specs.Lines.{lines}
use Rattle.n2k_run.proofs.Splits.{lines-append}
use Rattle.n2k_encode_run.specs.Outcomes.{GiveAll, counts_of, reports_from, text_of}
use Rattle.n2k_encode_run.proofs.Feeding.{count_lines, counts_append, give_all_append, reports_append}
use Rattle.n2k_encode_run.proofs.laws.outcomes_join.Goals as goal

pub returns-clause-outcomes : goal.returns-clause-outcomes
returns-clause-outcomes c = λ t nearest prefix more os ps ends first second.
    subst (λ ls. GiveAll t nearest ls (os ++ ps)) (sym (lines-append prefix more ends)) (give_all_append t nearest (lines prefix) (lines more) os ps first second)

pub returns-clause-texts : goal.returns-clause-texts
returns-clause-texts c = λ os ps. flat_map-append text_of os ps

pub returns-clause-reports : goal.returns-clause-reports
returns-clause-reports c = λ os ps.
    let from : 1 + length os ≡ (counts_of os).lines + 1 = omega (arith, count_lines (counts_of []) os) in
    reports_append 1 os ps ∙ ap (λ n. reports_from 1 os ++ reports_from n ps) from

pub returns-clause-counts : goal.returns-clause-counts
returns-clause-counts c = λ os ps. sym (counts_append (counts_of []) os ps)
