-- The kept prefix of a line, when more of the line comes, and the first line of bytes.
use Rattle.std.proofs.Common.{◌≡◌, ℕ, ◌+◌, ◌-◌, ◌<◌, ◌≤◌, List, [], ◌∷◌, ◌++◌, length, take, drop, sym, ap, ◌∙◌, arith}
use Rattle.std.specs.Prelude.{min}
use Rattle.std.proofs.Math.Seq.{take-append-add}
use Rattle.std.proofs.lemmas.List.{take_min}
use Rattle.n2k_run.specs.Blocks.{HasNoFeed}
use Rattle.n2k_run.specs.Inner.Block.{EndsAt}
use Rattle.n2k_run.specs.Lines.{lines, without_return}
use Rattle.n2k_run.proofs.Answering.{lines_chunk, lines_rest}

pub kept_more : (n room : ℕ) (kept bytes : List ℕ) → length kept ≤ n → room ≡ n - length kept → kept ++ take (min room (length bytes)) bytes ≡ take n (kept ++ bytes)
kept_more n room kept bytes few is = ap (λ b. kept ++ b) (take_min room bytes) ∙ sym (take-append-add kept bytes room) ∙ ap (λ k. take k (kept ++ bytes)) (omega (arith, few, is))

pub line_ends : (bytes : List ℕ) (end : ℕ) → EndsAt bytes end → lines bytes ≡ without_return (take end bytes) ∷ lines (drop (end + 1) bytes)
line_ends bytes end at = ap lines at.split ∙ lines_chunk (take end bytes) (drop (end + 1) bytes) at.no_feed

pub only_line : (bytes : List ℕ) → HasNoFeed bytes → 0 < length bytes → lines bytes ≡ without_return bytes ∷ lines []
only_line bytes none some = lines_rest bytes none some
