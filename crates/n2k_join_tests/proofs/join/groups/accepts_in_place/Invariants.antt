-- Each group that is broken is one less that is open.
use Rattle.std.proofs.Common.{length}
use Rattle.n2k_join_tests.proofs.join.groups.accepts_in_place.Given as goal

abbrev pub invariant-loop : goal.invariant-loop
invariant-loop l = Unit {0}

abbrev pub decreases-loop : goal.decreases-loop
decreases-loop l = length l.join.groups
