use Rattle.std.proofs.Common.{◌≡◌, ◌-◌, ◌<◌, None, length}
use Rattle.std.specs.List.{slice_get}
use Rattle.std.specs.Str.{chars}
use Rattle.n2k_encode.proofs.texts.last_letter.Given as goal

-- the last so far
abbrev pub invariant-loop-letter : goal.invariant-loop-letter
invariant-loop-letter l =
    (length l.yielded ≡ 0 → l.last ≡ None) × (0 < length l.yielded → l.last ≡ slice_get (chars l.text) (length l.yielded - 1))
