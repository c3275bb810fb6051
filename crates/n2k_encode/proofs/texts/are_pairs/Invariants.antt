use Rattle.std.proofs.Common.{◌≡◌, is_some, length}
use Rattle.n2k_encode.specs.Texts.{hex_bytes, some_pairs}
use Rattle.n2k_encode.proofs.texts.are_pairs.Given as goal

-- the rest is pairs if all is
abbrev pub invariant-loop-rest : goal.invariant-loop-rest
invariant-loop-rest l = is_some (some_pairs l.rest) ≡ is_some (hex_bytes l.text)

abbrev pub decreases-loop-rest : goal.decreases-loop-rest
decreases-loop-rest l = length l.rest
