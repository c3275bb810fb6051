-- No byte of a plain line is below the space.
use Rattle.std.proofs.Common.{◌≡◌, ℕ, suc, ◌+◌, ◌/◌, ◌%◌, ◌^◌, ◌<◌, ◌≤◌, true, List, [], ◌∷◌, ◌++◌, length, refl, arith, leb, All, decimal, slice_index, ◌&&◌}
use Rattle.std.specs.List.{flat_map, list_all}
use Rattle.std.proofs.lemmas.Bool.{agree_below_at, and_parts, leb-true}
use Rattle.std.proofs.lemmas.Fmt.{decimal_by_steps}
use Rattle.std.proofs.lemmas.List.Elements.{All-nil, All-cons, All-append, All-weaker}
use Rattle.std.proofs.lemmas.List.Sums.{AllPass-from_list_all}
use Rattle.hex.specs.Hex.{lower_digits, encode_with, IsBytes}
use Rattle.n2k_wire.specs.Packet.{PacketParts, IsPacketParts, is_printable, is_stamp_byte, starts_stamp}
use Rattle.n2k_wire.specs.Texts.{byte_column, number_column, plain_line}

abbrev IsClean : List ℕ → Type 0
IsClean bytes = All (λ b. 32 ≤ b) bytes

more : (b : ℕ) (bytes : List ℕ) → 32 ≤ b → IsClean bytes → IsClean (b ∷ bytes)
more b bytes = All-cons (λ b. 32 ≤ b) b bytes

onward : (xs ys : List ℕ) → IsClean xs → IsClean ys → IsClean (xs ++ ys)
onward xs ys = All-append (λ b. 32 ≤ b) xs ys

figure : (d : ℕ) → IsClean ((48 + d) ∷ [])
figure d = more (48 + d) [] (omega arith) (All-nil (λ b. 32 ≤ b))

clean-number : (n : ℕ) → n < 2 ^ 64 → IsClean (number_column n)
clean-number n wide = more 44 (decimal n) (omega arith) (decimal_by_steps (λ k text. IsClean text) (λ k small. figure k) (λ k text large prefix. onward text ((48 + k % 10) ∷ []) prefix (figure (k % 10))) n wide)

digit : (d : ℕ) → d < 16 → 32 ≤ slice_index lower_digits d
digit d small = leb-true 32 _ (agree_below_at (λ k. leb 32 (slice_index lower_digits k)) (λ k. true) 16 d refl small)

clean-bytes : (bytes : List ℕ) → IsBytes bytes → IsClean (flat_map byte_column bytes)
unfolding encode_with
clean-bytes [] are = All-nil (λ b. 32 ≤ b)
clean-bytes (b ∷ bytes) are =
    let small : b < 256 = are 0 in
    let rest = flat_map byte_column bytes in
    let low = more (slice_index lower_digits (b % 16)) rest (digit (b % 16) (omega arith)) (clean-bytes bytes (λ i. are (suc i))) in
    more 44 (slice_index lower_digits (b / 16) ∷ slice_index lower_digits (b % 16) ∷ rest) (omega arith) (more (slice_index lower_digits (b / 16)) (slice_index lower_digits (b % 16) ∷ rest) (digit (b / 16) (omega arith)) low)

clean-stamp : (stamp : List ℕ) → list_all is_stamp_byte stamp ≡ true → IsClean stamp
clean-stamp stamp all =
    All-weaker (λ b. is_stamp_byte b ≡ true) (λ b. 32 ≤ b) (λ b fits. leb-true 32 b (and_parts _ _ (and_parts (is_printable b) _ fits).0).0) stamp (AllPass-from_list_all is_stamp_byte stamp all)

pub clean_line : (p : PacketParts) → IsPacketParts p → IsClean (plain_line p)
unfolding plain_line
clean_line p is =
    let ok = is.packet_ok in
    let stamp = clean-stamp p.stamp (and_parts (starts_stamp p.stamp && leb (length p.stamp) 32) (list_all is_stamp_byte p.stamp) ok.stamp_ok).1 in
    onward _ _ (onward _ _ (onward _ _ (onward _ _ (onward _ _ (onward _ _ stamp (clean-number p.id.prio (omega (arith, ok.prio_ok)))) (clean-number p.id.pgn (omega (arith, ok.pgn_ok)))) (clean-number p.id.src (omega (arith, is.src_ok)))) (clean-number p.id.dst (omega (arith, is.dst_ok))))
    (clean-number (length p.payload) (omega (arith, ok.payload_ok)))) (clean-bytes p.payload is.bytes_ok)
