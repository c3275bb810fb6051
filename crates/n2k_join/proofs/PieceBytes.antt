-- The seven bytes of a frame, by their places in it.
use Rattle.std.proofs.Common.{◌≡◌, ℕ, zero, suc, ◌+◌, ◌*◌, ◌≤◌, List, [], ◌∷◌, length, get_or, take, drop, map, refl, ap, ◌∙◌, add_assoc, add-zero, arith, slice_index_or, length-drop}
use Rattle.std.specs.List.{range_with_len}
use Rattle.std.proofs.Math.Seq.{drop-cons}
use Rattle.n2k_join.specs.Frames.{filler}
use Rattle.n2k_join.specs.Pieces.{sent_byte, piece_bytes}

places : (a : ℕ) → range_with_len a 7 ≡ (a + 0) ∷ (a + 1) ∷ (a + 2) ∷ (a + 3) ∷ (a + 4) ∷ (a + 5) ∷ (a + 6) ∷ []
places a = simp (add_assoc, add-zero)

pub bytes_by_place : (payload : List ℕ) (n first : ℕ) → first ≡ 7 * n → piece_bytes payload n ≡ sent_byte payload (first + 0) ∷ sent_byte payload (first + 1) ∷ sent_byte payload (first + 2) ∷ sent_byte payload (first + 3) ∷ sent_byte payload (first + 4) ∷ sent_byte payload (first + 5) ∷ sent_byte payload (first + 6) ∷ []
unfolding piece_bytes
bytes_by_place payload n first e = rw e (ap (map (sent_byte payload)) (places (7 * n)))

-- the elements of a list from a place on, one by one
window : (xs : List ℕ) (start count : ℕ) → start + count ≤ length xs → map (λ i. slice_index_or xs i filler) (range_with_len start count) ≡ take count (drop start xs)
window xs start zero within = refl
window xs start (suc count) within = grind (arith, window xs (start + 1) count (omega (arith, within)), drop-cons)

-- a later frame that the data fill
pub later_bytes : (payload after seven : List ℕ) (n first : ℕ) → first + 1 ≡ 7 * n → after ≡ drop first payload → 7 ≤ length after → seven ≡ take 7 after → seven ≡ piece_bytes payload n
unfolding piece_bytes
later_bytes payload after seven n first e rest enough is = grind (arith, window (length payload ∷ payload) (suc first) 7 (omega (arith, (ap length rest ∙ length-drop first payload), enough)))

-- frame 0, if the data fill it
pub first_bytes : (payload six : List ℕ) → 6 ≤ length payload → six ≡ take 6 payload → length payload ∷ get_or six 0 0 ∷ get_or six 1 0 ∷ get_or six 2 0 ∷ get_or six 3 0 ∷ get_or six 4 0 ∷ get_or six 5 0 ∷ [] ≡ piece_bytes payload 0
first_bytes [] six enough is = absurd (omega (arith, enough))
first_bytes (a ∷ []) six enough is = absurd (omega (arith, enough))
first_bytes (a ∷ b ∷ []) six enough is = absurd (omega (arith, enough))
first_bytes (a ∷ b ∷ c ∷ []) six enough is = absurd (omega (arith, enough))
first_bytes (a ∷ b ∷ c ∷ d ∷ []) six enough is = absurd (omega (arith, enough))
first_bytes (a ∷ b ∷ c ∷ d ∷ e ∷ []) six enough is = absurd (omega (arith, enough))
first_bytes (a ∷ b ∷ c ∷ d ∷ e ∷ f ∷ more) six enough is = grind (arith, bytes_by_place)
