-- Texts of one line each are the lines of their concatenation.
use Rattle.std.proofs.Common.{◌≡◌, ℕ, ◌≤◌, List, [], ◌∷◌, ◌++◌, map, refl, arith, append_assoc, flat_map, All}
use Rattle.n2k_table.specs.OneLine.{IsOneLine}
use Rattle.n2k_run.specs.Lines.{without_return, lines}
use Rattle.n2k_run.proofs.Answering.{lines_chunk}

-- a clean text keeps its end
keeps_end : (prefix : List ℕ) → All (λ b. 32 ≤ b) prefix → without_return prefix ≡ prefix
keeps_end [] clean = refl
keeps_end (b ∷ bs) clean = grind arith

-- a clean text before a line feed is the first line
pub lines_one : (prefix rest : List ℕ) → All (λ b. 32 ≤ b) prefix → lines (prefix ++ (10 ∷ rest)) ≡ prefix ∷ lines rest
lines_one prefix rest clean = grind (arith, lines_chunk, keeps_end)

-- texts of one line each are the lines of their concatenation
pub lines_of_texts : {X : Type 0} (text : X → List ℕ) → ((x : X) → IsOneLine (text x)) → (xs : List X) → map (λ line. line ++ 10 ∷ []) (lines (flat_map text xs)) ≡ map text xs
lines_of_texts text one [] = refl
lines_of_texts text one (x ∷ xs) = grind (arith, lines_of_texts text one xs, append_assoc, lines_one)
