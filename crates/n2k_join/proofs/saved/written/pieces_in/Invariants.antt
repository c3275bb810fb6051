-- The rest is a part of the text, and each round makes it shorter.
use Rattle.std.proofs.Common.{length, ◌≤◌}
use Rattle.n2k_join.proofs.saved.written.pieces_in.Given as goal

abbrev pub invariant-loop-piece : goal.invariant-loop-piece
invariant-loop-piece l = length l.rest ≤ length l.text

abbrev pub decreases-loop-piece : goal.decreases-loop-piece
decreases-loop-piece l = length l.rest
