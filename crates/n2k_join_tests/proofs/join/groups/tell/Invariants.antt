-- Each group that is broken is one less that is open.
use Rattle.std.proofs.Common.{length}
use Rattle.n2k_join_tests.proofs.join.groups.tell.Given as goal

abbrev pub invariant-loop-group : goal.invariant-loop-group
invariant-loop-group l = Unit {0}

abbrev pub decreases-loop-group : goal.decreases-loop-group
decreases-loop-group l = length l.join.groups
