-- The look-up keeps its length.
use Rattle.std.proofs.Common.{◌≡◌, length}
use Rattle.n2k_table.proofs.index.quick_of.Given as goal

abbrev pub invariant-loop-at : goal.invariant-loop-at
invariant-loop-at l =
    (goal.iterator-loop-at).can_next l.at-iterator ×
    (goal.iterator-loop-at).is_finite l.at-iterator ×
    (length l.quick.items ≡ 8192)
