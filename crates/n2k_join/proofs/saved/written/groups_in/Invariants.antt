-- The rest is a part of the text, and each round makes it shorter.
use Rattle.std.proofs.Common.{length, ◌≤◌}
use Rattle.n2k_join.proofs.saved.written.groups_in.Given as goal

abbrev pub invariant-loop-groups : goal.invariant-loop-groups
invariant-loop-groups l = length l.rest ≤ length l.text

abbrev pub decreases-loop-groups : goal.decreases-loop-groups
decreases-loop-groups l = length l.rest
