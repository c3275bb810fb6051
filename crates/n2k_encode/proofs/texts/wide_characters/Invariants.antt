use Rattle.std.proofs.Common.{◌≡◌, Some, length, drop}
use Rattle.std.specs.List.{flat_map}
use Rattle.std.specs.Str.{chars}
use Rattle.n2k_encode.specs.Texts.{wide_character, within, before}
use Rattle.n2k_encode.proofs.texts.wide_characters.Given as goal

-- the bytes so far before those of the characters that are left are those of all
abbrev pub invariant-loop-letter : goal.invariant-loop-letter
invariant-loop-letter l =
    within (before l.bytes.items (Some (flat_map wide_character (drop (length l.yielded) (chars l.text)))))
    ≡ within (Some (flat_map wide_character (chars l.text)))
