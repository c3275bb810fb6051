use Rattle.std.proofs.Common.{sym, ap, ◌∙◌}
use Rattle.n2k_table.specs.Shown.{is_no_digit, trimmed_of}
use Rattle.n2k_table.proofs.Trims.{trimmed_more, trimmed_done}
use Rattle.n2k_table.proofs.field_value.without_ff.Goals as goal

pub loop-last-preserved : goal.loop-last-preserved
loop-last-preserved c =
    sym (trimmed_more is_no_digit c.in-Some.prefix.now c.in-Some.last.now (sym c.if-not-is_no_digit.ensures)) ∙ ap (trimmed_of is_no_digit) (sym c.in-Some.ensures.cases.0) ∙ c.loop-last.invariant

pub returns-then-not-is_no_digit : goal.returns-then-not-is_no_digit
returns-then-not-is_no_digit c =
    c.in-Some.ensures.cases.0 ∙ sym (trimmed_done is_no_digit c.in-Some.prefix.now c.in-Some.last.now (sym c.if-not-is_no_digit.ensures))
    ∙ ap (trimmed_of is_no_digit) (sym c.in-Some.ensures.cases.0) ∙ c.loop-last.invariant
