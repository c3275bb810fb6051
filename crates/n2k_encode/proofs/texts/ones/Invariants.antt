use Rattle.std.proofs.Common.{◌≡◌, replicate}
use Rattle.n2k_encode.proofs.texts.ones.Given as goal

abbrev pub invariant-loop-done : goal.invariant-loop-done
invariant-loop-done l = l.bytes.items ≡ replicate l.done 255
