-- The reports so far are those of the broken groups; each round leaves fewer groups.
use Rattle.std.proofs.Common.{length}
use Rattle.n2k_run.specs.Inner.Overdue.{BreaksOverdue}
use Rattle.n2k_run.proofs.decoding.break_overdue.Given as goal

abbrev pub invariant-loop-group : goal.invariant-loop-group
invariant-loop-group l = BreaksOverdue l.fn.join l.join l.fn.report.items l.report.items

abbrev pub decreases-loop-group : goal.decreases-loop-group
decreases-loop-group l = length l.join.groups
