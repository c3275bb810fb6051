use Rattle.std.proofs.Common.{sym, ap, ◌∙◌}
use Rattle.n2k_table.specs.Shown.{is_filling, trimmed}
use Rattle.n2k_table.proofs.Trims.{trimmed_more, trimmed_done}
use Rattle.n2k_table.proofs.field_value.trimmed.Goals as goal

pub loop-last-preserved : goal.loop-last-preserved
loop-last-preserved c =
    sym (trimmed_more is_filling c.in-Some.prefix.now c.in-Some.last.now (sym c.if-not-is_filling.ensures)) ∙ ap trimmed (sym c.in-Some.ensures.cases.0) ∙ c.loop-last.invariant

pub returns-then-not-is_filling : goal.returns-then-not-is_filling
returns-then-not-is_filling c =
    c.in-Some.ensures.cases.0 ∙ sym (trimmed_done is_filling c.in-Some.prefix.now c.in-Some.last.now (sym c.if-not-is_filling.ensures))
    ∙ ap trimmed (sym c.in-Some.ensures.cases.0) ∙ c.loop-last.invariant
