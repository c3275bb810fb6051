use Rattle.std.proofs.Common.{◌∙◌, ap, sym, refl, arith}
use Rattle.n2k_join.specs.declared.counts.Counts.{Counts}
use Rattle.n2k_run.proofs.Overdue.{lines_stay, one_broken}
use Rattle.n2k_run.proofs.decoding.break_overdue.Goals as goal

-- a round counts no line
pub overflow_add-line : goal.overflow_add-line
overflow_add-line c = grind (arith, lines_stay)

pub loop-group-preserved : goal.loop-group-preserved
loop-group-preserved c =
    let same = ap (λ (k : Counts). k.lines) (c.counts-line.ensures ∙ ap (λ s. s.counts) (c.in-Some.ensures.after refl)) ∙ lines_stay c.loop-group.join in
    one_broken c.args.join.now c.loop-group.join c.expire.new.self c.in-Some.group c.counts-line.result.lines c.args.report.now.items c.loop-group.report.items c.broken_text.new.out.items c.loop-group.invariant (sym c.in-Some.ensures.broken) (c.in-Some.ensures.after refl) (c.in-Some.ensures.few refl) same c.in_ok-broken_text.ensures.ok c.in-Some.ensures.one_step
