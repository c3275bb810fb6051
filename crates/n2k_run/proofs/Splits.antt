-- The lines of bytes, after the first line and after a prefix that ends in a line feed.
use Rattle.std.proofs.Common.{◌≡◌, ◌<◌, ◌≤◌, ◌-◌, ℕ, Bool, true, false, cond, List, [], ◌∷◌, ◌++◌, length, get_or, take, map, refl, ap, append_assoc, arith}
use Rattle.std.specs.List.{slice_split, onto_first}
use Rattle.std.specs.Io.{IsEmptyOrEndsWith}
use Rattle.std.proofs.lemmas.List.{append-nil, map-append, take-append-drop}
use Rattle.std.proofs.Math.Seq.{drop-cons}
use Rattle.std.proofs.Math.ListN.{drop_of_length-le}
use Rattle.std.proofs.lemmas.List.Sums.{suffix_len_is}
use Rattle.n2k_run.specs.Lines.{line_feed, is_line_feed, without_last_empty, without_return, lines, whole_lines}

-- there is a first piece
first_chunk : (bytes : List ℕ) → (first : List ℕ) × ((more : List (List ℕ)) × (slice_split is_line_feed bytes ≡ first ∷ more))
first_chunk [] = ([], ([], refl))
first_chunk (byte ∷ bytes) =
    let next = first_chunk bytes in
    let P : Bool → Type 0 = λ b. (first : List ℕ) × ((more : List (List ℕ)) × (cond b ([] ∷ slice_split is_line_feed bytes) (onto_first byte (slice_split is_line_feed bytes)) ≡ first ∷ more)) in
    elim (is_line_feed byte) as P [
      | true ↦ ([], (slice_split is_line_feed bytes, refl))
      | false ↦ (byte ∷ next.0, (next.1.0, ap (onto_first byte) next.1.1))
    ]

-- a piece before others stays
without_last_empty-keeps : (chunk next : List ℕ) (more : List (List ℕ)) → without_last_empty (chunk ∷ (next ∷ more)) ≡ chunk ∷ without_last_empty (next ∷ more)
without_last_empty-keeps [] next more = refl
without_last_empty-keeps (byte ∷ chunk) next more = refl

without_last_empty-append : (chunks : List (List ℕ)) (next : List ℕ) (more : List (List ℕ)) → without_last_empty (chunks ++ (next ∷ more)) ≡ chunks ++ without_last_empty (next ∷ more)
without_last_empty-append [] next more = refl
without_last_empty-append (chunk ∷ []) next more = without_last_empty-keeps chunk next more
without_last_empty-append (chunk ∷ (second ∷ chunks)) next more = grind (arith, without_last_empty-append (second ∷ chunks) next more)

slice_split-feed : (prefix rest : List ℕ) → slice_split is_line_feed (prefix ++ (10 ∷ rest)) ≡ slice_split is_line_feed prefix ++ slice_split is_line_feed rest
slice_split-feed [] rest = refl
slice_split-feed (byte ∷ prefix) rest = grind (arith, slice_split-feed prefix rest, first_chunk prefix)

-- the lines of bytes: the lines up to a line feed, then the lines after it
pub lines_feed : (prefix rest : List ℕ) → lines (prefix ++ (10 ∷ rest)) ≡ map without_return (slice_split is_line_feed prefix) ++ lines rest
lines_feed prefix rest = grind (arith, slice_split-feed prefix rest, without_last_empty-append (slice_split is_line_feed prefix) (first_chunk rest).0 (first_chunk rest).1.0, map-append without_return (slice_split is_line_feed prefix) (without_last_empty (slice_split is_line_feed rest)))

-- bytes that end in a line feed
ends_in_feed : (bytes : List ℕ) → 0 < length bytes → get_or bytes (length bytes - 1) 0 ≡ 10 → bytes ≡ take (length bytes - 1) bytes ++ (10 ∷ [])
ends_in_feed bytes some last = grind (arith, drop-cons, drop_of_length-le, take-append-drop)

-- all bytes up to the last line feed
pub whole_lines-is : (bytes : List ℕ) (end : ℕ) → end ≤ length bytes → ((k : ℕ) → end ≤ k → k < length bytes → is_line_feed (get_or bytes k 0) ≡ false) → (0 < end → get_or bytes (end - 1) 0 ≡ 10) → take end bytes ≡ whole_lines bytes
whole_lines-is bytes end within none last = grind (arith, suffix_len_is)

-- after bytes that are empty or end in a line feed, new lines begin
pub lines-append : (prefix rest : List ℕ) → IsEmptyOrEndsWith prefix line_feed → lines (prefix ++ rest) ≡ lines prefix ++ lines rest
lines-append [] rest ends = refl
lines-append (byte ∷ bytes) rest ends = grind (arith, ends_in_feed (byte ∷ bytes) (omega arith) (ends (omega arith)), append_assoc (take (length (byte ∷ bytes) - 1) (byte ∷ bytes)) (10 ∷ []) rest, lines_feed (take (length (byte ∷ bytes) - 1) (byte ∷ bytes)) rest, lines_feed (take (length (byte ∷ bytes) - 1) (byte ∷ bytes)) [], append-nil (map without_return (slice_split is_line_feed (take (length (byte ∷ bytes) - 1) (byte ∷ bytes)))))
