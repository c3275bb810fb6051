-- A result and the lines of all the bytes.
use Rattle.std.proofs.Common.{◌≡◌, ℕ, ◌<◌, Bool, List, [], ◌∷◌, ◌++◌, length, map, ap, ◌∙◌, append_assoc, arith, Option, Some, Result, Ok, Err, append-nil}
use Rattle.std.proofs.lemmas.List.Splits.{slice_split_none}
use Rattle.n2k_run.specs.declared.blocks.Next.{Next}
use Rattle.n2k_run.specs.declared.blocks.Next.TheVariants.{Line, Long, End}
use Rattle.n2k_run.specs.declared.device.Failed.{Failed}
use Rattle.n2k_run.specs.Blocks.{BlocksView, Answers, AnswersKnown, AnswersLine, FirstLine, GivesNext, HasNoFeed}
use Rattle.n2k_run.specs.Lines.{is_line_feed, lines, without_last_empty, without_return}
use Rattle.n2k_run.proofs.Finding.{stays_more}
use Rattle.n2k_run.proofs.Splits.{lines_feed}

pub lines_chunk : (chunk rest : List ℕ) → HasNoFeed chunk → lines (chunk ++ (10 ∷ rest)) ≡ without_return chunk ∷ lines rest
lines_chunk chunk rest none = lines_feed chunk rest ∙ ap (λ chunks. map without_return chunks ++ lines rest) (slice_split_none is_line_feed chunk none)

pub lines_rest : (chunk : List ℕ) → HasNoFeed chunk → 0 < length chunk → lines chunk ≡ without_return chunk ∷ []
lines_rest [] none some = absurd (omega (arith, some))
lines_rest (byte ∷ bytes) none some = ap (λ chunks. map without_return (without_last_empty chunks)) (slice_split_none is_line_feed (byte ∷ bytes) none)

first_line : (whole line rest left : List ℕ) (ended : Bool) → FirstLine whole line rest ended (Some left) → lines (whole ++ left) ≡ line ∷ lines (rest ++ left)
first_line whole line rest left ended f = grind (arith, append_assoc, lines_chunk, append-nil, lines_rest)

gives_line : (whole rest left : List ℕ) (ended : Bool) (result : Result Next Failed) → GivesNext whole rest ended (Some left) result → AnswersLine (whole ++ left) (rest ++ left) result
gives_line whole rest left ended (Ok (Line line)) gives = first_line whole line.now rest left ended gives.0
gives_line whole rest left ended (Ok Long) gives = (gives.0, first_line whole gives.0 rest left ended gives.1, gives.2)
gives_line whole rest left ended (Ok End) gives = (ap (λ w. w ++ left) gives.2 ∙ gives.0, ap (λ r. r ++ left) gives.3 ∙ gives.0)
gives_line whole rest left ended (Err failed) gives = stays_more whole rest left gives.1

pub answers_known : (old new : BlocksView) (left₀ left : Option (List ℕ)) (calls₀ calls : ℕ) (result : Result Next Failed) → Answers old new left₀ left calls₀ calls result → AnswersKnown old new left₀ left result
answers_known old new left₀ left calls₀ calls result answers = grind (arith, append_assoc, gives_line)
