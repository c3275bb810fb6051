-- As many zeros as rounds, after the earlier text.
use Rattle.std.proofs.Common.{◌≡◌, ◌∷◌, ◌++◌, replicate}
use Rattle.n2k_table.proofs.decimal.push_filled.Given as goal

abbrev pub invariant-loop : goal.invariant-loop
invariant-loop g l = l.line.items ≡ l.fn.line.items ++ (48 ∷ 46 ∷ replicate l.counter 48)
