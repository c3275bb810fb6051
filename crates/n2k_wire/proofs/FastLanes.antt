-- Bytes that are looked at all at once.
use Rattle.std.proofs.Common.{◌≡◌, ℕ, ◌+◌, ◌-◌, ◌%◌, ◌^◌, ◌<◌, ◌≤◌, Bool, true, false, not, cond, eqb, ltb, List, [], ◌∷◌, length, get_or, map, take, replicate, Fits, w8, Some, refl, sym, ap, ◌∙◌, arith, inl, inr, eq-zero-or-pos, position, bit_or}
use Rattle.std.specs.List.{position_or_len, prefix_len, list_all}
use Rattle.std.proofs.lemmas.Bool.{agree_below_at, lt-ltb, not-false, not-true}
use Rattle.std.proofs.lemmas.List.{get_or-take, length-map, length-take-le}
use Rattle.std.proofs.lemmas.List.Sums.{position_or_len_is, prefix_len-le-length, prefix_len_passes, prefix_len_stops}
use Rattle.std.proofs.lemmas.Simd.{leading_from_mask_l, mask_l-mod, trailing_mask_l}
use lib.Count.{count_trailing_zeros}
use lib.Lanes.{Each1, mask_l, top, zip2}
use Rattle.n2k_wire.specs.Candump.{is_interface_byte}
use Rattle.n2k_wire.specs.Packet.{is_stamp_byte}
use Rattle.n2k_wire.proofs.HexDigits.{all_before}

abbrev pub other : ℕ → Bool
other b = not (is_interface_byte b)

abbrev lane : ℕ → Bool
lane b = top 7 (cond (ltb 93 ((b + (256 - 33)) % 256)) 255 0)

others : (bytes : List ℕ) → Each1 (Fits w8) bytes
    → map (top 7) (zip2 (λ a b. cond (ltb a b) 255 0) (replicate (length bytes) 93) (zip2 (λ a b. (a + (256 - b)) % 256) bytes (replicate (length bytes) 33))) ≡ map other bytes
others [] small = refl
others (b ∷ bytes) small = λ i. agree_below_at lane other 256 b refl small.0.fits i ∷ others bytes small.1 i

-- the code's mask of sixteen bytes has the bits of `other`
pub mask_is : (bytes : List ℕ) → length bytes ≡ 16 → Each1 (Fits w8) bytes
    → mask_l (map (top 7) (zip2 (λ a b. cond (ltb a b) 255 0) (replicate 16 93) (zip2 (λ a b. (a + (256 - b)) % 256) bytes (replicate 16 33)))) % 2 ^ 64 ≡ mask_l (map other bytes)
mask_is bytes long small = grind (arith, others bytes small, mask_l-mod (map other bytes) 64 (omega (arith, length-map bytes other, long)), length-map bytes other)

-- the first of sixteen bytes whose bit is set
pub place_is : (text : List ℕ) (mask : ℕ) → 16 ≤ length text → count_trailing_zeros 64 mask < 16 → mask ≡ mask_l (map other (take 16 text)) → position other text ≡ Some (count_trailing_zeros 64 mask)
unfolding count_trailing_zeros
place_is text mask long few is =
    let bytes = take 16 text in
    let at = count_trailing_zeros 64 mask in
    let sixteen : length bytes ≡ 16 = length-take-le 16 text long in
    elim (eq-zero-or-pos mask) [
      | inl none ↦ absurd (let far : at ≡ 64 = ap (count_trailing_zeros 64) none in omega arith)
      | inr some ↦
          let place : at ≡ prefix_len (λ b. not (other b)) bytes = ap (count_trailing_zeros 64) is ∙ trailing_mask_l other 64 bytes (omega (arith, sixteen)) (omega (arith, is)) in
          let before : (k : ℕ) → k < at → other (get_or text k 0) ≡ false = λ k early.
          ap other (sym (get_or-take 16 text k 0 (omega arith))) ∙ not-true _ (prefix_len_passes (λ b. not (other b)) bytes k 0 (omega (arith, place))) in
          let found : other (get_or text at 0) ≡ true =
          ap other (sym (get_or-take 16 text at 0 few)) ∙ ap (λ k. other (get_or bytes k 0)) place ∙ not-false _ (prefix_len_stops (λ b. not (other b)) bytes 0 (omega (arith, place, sixteen))) in
          let end = position_or_len_is other text at 0 (omega arith) before (λ _. found) in
          let inside : ltb (position_or_len other text) (length text) ≡ true = lt-ltb _ _ (omega (arith, end)) in
          rw (inside, end) refl
    ]

-- ---- the bytes of a stamp

abbrev no_stamp : ℕ → Bool
no_stamp b = not (is_stamp_byte b)

abbrev stamp_lane : ℕ → Bool
stamp_lane b = top 7 (bit_or (cond (ltb 94 ((b + (256 - 32)) % 256)) 255 0) (cond (eqb b 44) 255 0))

stamp_lanes : (bytes : List ℕ) → Each1 (Fits w8) bytes
    → map (top 7) (zip2 bit_or (zip2 (λ a b. cond (ltb a b) 255 0) (replicate (length bytes) 94) (zip2 (λ a b. (a + (256 - b)) % 256) bytes (replicate (length bytes) 32))) (zip2 (λ a b. cond (eqb a b) 255 0) bytes (replicate (length bytes) 44))) ≡ map no_stamp bytes
stamp_lanes [] small = refl
stamp_lanes (b ∷ bytes) small = λ i. agree_below_at stamp_lane no_stamp 256 b refl small.0.fits i ∷ stamp_lanes bytes small.1 i

pub stamp_mask : (bytes : List ℕ) → length bytes ≡ 32 → Each1 (Fits w8) bytes
    → mask_l (map (top 7) (zip2 bit_or (zip2 (λ a b. cond (ltb a b) 255 0) (replicate 32 94) (zip2 (λ a b. (a + (256 - b)) % 256) bytes (replicate 32 32))) (zip2 (λ a b. cond (eqb a b) 255 0) bytes (replicate 32 44)))) % 2 ^ 64 ≡ mask_l (map no_stamp bytes)
stamp_mask bytes long small =
    ap (λ ms. mask_l ms % 2 ^ 64) (rw long at (stamp_lanes bytes small)) ∙ mask_l-mod (map no_stamp bytes) 64 (omega (arith, length-map bytes no_stamp, long))

-- all bytes are a stamp's
pub none_stops : (text : List ℕ) (n : ℕ) → length text ≡ n → mask_l (map no_stamp text) ≡ 0 → list_all is_stamp_byte (take n text) ≡ true
none_stops text n long none = grind (arith, leading_from_mask_l no_stamp text none, all_before is_stamp_byte text)

-- all bytes before the first set bit are a stamp's
pub one_stops : (text : List ℕ) (mask : ℕ) → length text ≤ 64 → mask ≡ mask_l (map no_stamp text) → 0 < mask → (list_all is_stamp_byte (take (count_trailing_zeros 64 mask) text) ≡ true) × (count_trailing_zeros 64 mask ≤ length text)
one_stops text mask long is some = grind (arith, trailing_mask_l no_stamp 64 text long (omega (arith, is)), all_before is_stamp_byte text, prefix_len-le-length (λ b. not (no_stamp b)) text)
