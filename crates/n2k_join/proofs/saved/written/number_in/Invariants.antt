-- The rest is a part of the text, and each round makes it shorter.
use Rattle.std.proofs.Common.{length, ◌≤◌}
use Rattle.n2k_join.proofs.saved.written.number_in.Given as goal

abbrev pub invariant-loop-byte : goal.invariant-loop-byte
invariant-loop-byte l = length l.rest ≤ length l.text

abbrev pub decreases-loop-byte : goal.decreases-loop-byte
decreases-loop-byte l = length l.rest
