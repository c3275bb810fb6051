use Rattle.std.proofs.Common.{◌≡◌, ◌*◌, ◌^◌, min}
use Rattle.n2k_encode.proofs.numeral.with_zeros.Given as goal

abbrev pub invariant-loop-done : goal.invariant-loop-done
invariant-loop-done l = l.value ≡ min (l.number * 10 ^ l.done) (2 ^ 100)
