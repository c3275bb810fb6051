use Rattle.std.proofs.Common.{◌≡◌, length}
use Rattle.std.specs.Char.Utf16.{utf16_lossy_chars}
use Rattle.n2k_table.specs.Strings.{units}
use Rattle.n2k_table.specs.Text.{character}
use Rattle.n2k_encode.specs.Says.{has_pieces}
use Rattle.n2k_encode.proofs.shows.has_wide.Given as goal

abbrev pub invariant-loop-letter : goal.invariant-loop-letter
invariant-loop-letter l = has_pieces character (utf16_lossy_chars (units l.left)) l.rest ≡ has_pieces character (utf16_lossy_chars (units l.bytes)) l.text

abbrev pub decreases-loop-letter : goal.decreases-loop-letter
decreases-loop-letter l = length l.left
