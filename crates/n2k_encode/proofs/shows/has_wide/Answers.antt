use Rattle.std.proofs.Common.{sym, ◌∙◌}
use Rattle.n2k_encode.proofs.Pieces.{no_characters}
use Rattle.n2k_encode.proofs.shows.has_wide.Goals as goal

pub returns : goal.returns
returns c = c.is_empty.ensures ∙ sym (no_characters c.loop-letter.left.now c.loop-letter.rest.now c.in_default.ensures) ∙ c.loop-letter.invariant
