use Rattle.std.proofs.Common.{◌≡◌, length}
use Rattle.n2k_encode.specs.Texts.{some_pairs, within, before}
use Rattle.n2k_encode.proofs.texts.some_pairs.Given as goal

-- the bytes so far before those of the rest are those of the whole text
abbrev pub invariant-loop-rest : goal.invariant-loop-rest
invariant-loop-rest l = within (before l.bytes.items (some_pairs l.rest)) ≡ within (some_pairs l.text)

abbrev pub decreases-loop-rest : goal.decreases-loop-rest
decreases-loop-rest l = length l.rest
