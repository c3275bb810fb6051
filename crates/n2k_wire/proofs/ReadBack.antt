-- The plain line of a packet is read as that packet.
use Rattle.std.proofs.Common.{◌≡◌, ℕ, zero, suc, ◌+◌, ◌*◌, ◌/◌, ◌%◌, ◌^◌, ◌<◌, ◌≤◌, true, false, List, [], ◌∷◌, ◌++◌, map, length, Some, None, Ok, ltb, leb, not, refl, ap, ◌∙◌, arith, append_assoc, length-append, ◌==◌, ◌&&◌, decimal, option_and_then, slice_index, IsTrue}
use Rattle.std.specs.List.{All, list_all, flat_map}
use Rattle.std.proofs.lemmas.Bool.{agree_below_at, and_parts, leb-true, le-leb, lt-ltb, ne_eqb, not-true}
use Rattle.std.proofs.lemmas.Fmt.{decimal_by_steps, length-decimal-le, decimal_nonempty}
use Rattle.std.proofs.lemmas.List.{append-nil, length-map}
use Rattle.std.proofs.lemmas.List.Elements.{All-nil, All-cons, All-append, All-weaker}
use Rattle.std.proofs.lemmas.List.Splits.{slice_split_at, slice_split_none}
use Rattle.std.proofs.lemmas.List.Sums.{AllPass-from_list_all}
use Rattle.hex.specs.Hex.{IsBytes, encode_with, encode_lower, lower_digits}
use Rattle.hex.proofs.HexLemmas.{decode_sized-encode_lower}
use Rattle.n2k_wire.specs.declared.entry.Packing.{Packing}
use Rattle.n2k_wire.specs.Digits.{decimal_digit, decimal_after, decimal_number}
use Rattle.n2k_wire.specs.Entry.{entry, is_skipped, is_candump, settled}
use Rattle.n2k_wire.specs.Packet.{PacketParts, IsPacketParts, is_printable, is_stamp, is_stamp_byte, starts_stamp}
use Rattle.n2k_wire.specs.Plain.{columns, number_to, pair, pairs, header, id_of, packed, packet_of, plain}
use Rattle.n2k_wire.specs.Texts.{byte_column, number_column, plain_line}
use Rattle.n2k_wire.proofs.PlainLemmas.{bytes_of-pairs}

-- ---- columns

-- a text without a comma
abbrev pub HasNoComma : List ℕ → Type 0
HasNoComma text = All (λ b. (b == 44) ≡ false) text

no_comma : (b : ℕ) → (b ≡ 44 → ⊥) → (b == 44) ≡ false
no_comma b other = ne_eqb b 44 other

-- a column and a comma, and the text after them
pub next_column : (text more : List ℕ) → HasNoComma text → columns (text ++ (44 ∷ more)) ≡ text ∷ columns more
next_column text more h = slice_split_at (λ b. b == 44) text 44 more h refl

pub last_column : (text : List ℕ) → HasNoComma text → columns text ≡ text ∷ []
last_column text h = slice_split_none (λ b. b == 44) text h

-- ---- bytes

-- a byte as two digits
abbrev byte_digits : ℕ → List ℕ
byte_digits b = encode_lower (b ∷ [])

digit_no_comma : (d : ℕ) → d < 16 → (slice_index lower_digits d == 44) ≡ false
digit_no_comma d h = agree_below_at (λ k. slice_index lower_digits k == 44) (λ k. false) 16 d refl h

byte_no_comma : (b : ℕ) → b < 256 → HasNoComma (byte_digits b)
unfolding encode_with
byte_no_comma b h = grind (arith, digit_no_comma)

length-byte_digits : (b : ℕ) → length (byte_digits b) ≡ 2
unfolding encode_with
length-byte_digits b = refl

one_byte : (b : ℕ) → b < 256 → IsBytes (b ∷ [])
one_byte b h zero = h
one_byte b h (suc i) = omega arith

-- the two digits of a byte spell it
byte_reads : (b : ℕ) → b < 256 → pair (byte_digits b) ≡ Some (b ∷ [])
unfolding pair
byte_reads b h = rw (decode_sized-encode_lower (b ∷ []) 1 refl (one_byte b h)) refl

bytes_read : (bytes : List ℕ) → IsBytes bytes → pairs (map byte_digits bytes) ≡ Some bytes
unfolding pairs
bytes_read [] h = refl
bytes_read (b ∷ bytes) h = rw (byte_reads b (h 0), bytes_read bytes (λ i. h (suc i))) refl

-- a column, followed by one column for each byte
columns_of_bytes : (prefix bytes : List ℕ) → HasNoComma prefix → IsBytes bytes → columns (prefix ++ flat_map byte_column bytes) ≡ prefix ∷ map byte_digits bytes
columns_of_bytes prefix [] h bs = rw append-nil (last_column prefix h)
columns_of_bytes prefix (b ∷ bytes) h bs = grind (arith, columns_of_bytes (byte_digits b) bytes (byte_no_comma b (bs 0)) (λ i. bs (suc i)), next_column)

-- three characters for each byte
length-bytes : (bytes : List ℕ) → length (flat_map byte_column bytes) ≡ 3 * length bytes
length-bytes [] = refl
length-bytes (b ∷ bytes) = omega (arith, length-byte_digits b, length-bytes bytes, length-append (byte_column b) (flat_map byte_column bytes))

-- ---- numbers

pub digit_reads : (d : ℕ) → d < 10 → decimal_digit (48 + d) ≡ Some d
unfolding decimal_digit
digit_reads d h = grind arith

one_digit : (before d : ℕ) → d < 10 → decimal_after before ((48 + d) ∷ []) ≡ Some (10 * before + d)
unfolding decimal_after
one_digit before d h = rw (digit_reads d h) refl

-- one digit more on the right
digit_after : (before b : ℕ) (digits : List ℕ) (n : ℕ) → decimal_after before digits ≡ Some n → decimal_after before (digits ++ (b ∷ [])) ≡ decimal_after n (b ∷ [])
unfolding decimal_after
digit_after before b [] n e = let same : before ≡ n = cc in rw same refl
digit_after before b (c ∷ digits) n e =
    elim (decimal_digit c) as (λ o. option_and_then (λ digit. decimal_after (10 * before + digit) digits) o ≡ Some n → option_and_then (λ digit. decimal_after (10 * before + digit) (digits ++ (b ∷ []))) o ≡ decimal_after n (b ∷ [])) [
      | None ↦ λ none. cc
      | Some digit ↦ λ some. digit_after (10 * before + digit) b digits n some
    ] e

-- a text that is read as this number, and is one column
abbrev IsReadAs : ℕ → List ℕ → Type 0
IsReadAs n text = (decimal_after 0 text ≡ Some n) × HasNoComma text

glyph_no_comma : (d : ℕ) → HasNoComma ((48 + d) ∷ [])
glyph_no_comma d = All-cons (λ x. (x == 44) ≡ false) (48 + d) [] (no_comma (48 + d) (λ e. omega arith)) (All-nil (λ x. (x == 44) ≡ false))

one_digit_reads : (n : ℕ) → n < 10 → IsReadAs n ((48 + n) ∷ [])
one_digit_reads n h = (one_digit 0 n h ∙ ap Some (omega arith), glyph_no_comma n)

more_digits_read : (n : ℕ) (text : List ℕ) → 10 ≤ n → IsReadAs (n / 10) text → IsReadAs n (text ++ ((48 + n % 10) ∷ []))
more_digits_read n text h prefix = (
  digit_after 0 (48 + n % 10) text (n / 10) prefix.0 ∙ one_digit (n / 10) (n % 10) (omega arith) ∙ ap Some (omega arith),
  All-append (λ x. (x == 44) ≡ false) text ((48 + n % 10) ∷ []) prefix.1 (glyph_no_comma (n % 10)),
)

-- the decimal digits of a number are read as that number
pub decimal_reads : (n : ℕ) → n < 2 ^ 64 → IsReadAs n (decimal n)
decimal_reads n h = decimal_by_steps IsReadAs one_digit_reads more_digits_read n h

number_no_comma : (n : ℕ) → n < 10 ^ 10 → HasNoComma (decimal n)
number_no_comma n h = (decimal_reads n (omega arith)).1

-- the decimal digits of a number within a limit are read as that number
number_reads : (limit n : ℕ) → n ≤ limit → limit < 10 ^ 10 → number_to limit (decimal n) ≡ Some n
unfolding number_to decimal_number
number_reads limit n within h =
    let wide : n < 2 ^ 64 = omega arith in
    let some : ltb 0 (length (decimal n)) ≡ true = lt-ltb 0 (length (decimal n)) (decimal_nonempty n wide) in
    let few : leb (length (decimal n)) 10 ≡ true = le-leb (length (decimal n)) 10 (length-decimal-le 10 n (omega arith) (omega arith) wide) in
    let small : leb n limit ≡ true = le-leb n limit within in
    rw (some, few, (decimal_reads n wide).0, small) refl

length-number_column : (n : ℕ) → n < 10 ^ 10 → length (number_column n) ≤ 11
length-number_column n h = omega (arith, length-decimal-le 10 n (omega arith) h (omega arith))

-- ---- the stamp

-- a stamp begins as none of the other lines do, is short, and is one column
pub stamp_parts : (stamp : List ℕ) → IsTrue (is_stamp stamp) → (starts_stamp stamp ≡ true) × (length stamp ≤ 32) × HasNoComma stamp
stamp_parts stamp ok =
    let outer = and_parts (starts_stamp stamp && leb (length stamp) 32) (list_all is_stamp_byte stamp) ok in
    let inner = and_parts (starts_stamp stamp) (leb (length stamp) 32) outer.0 in (
      inner.0,
      leb-true (length stamp) 32 inner.1,
      All-weaker (λ b. is_stamp_byte b ≡ true) (λ b. (b == 44) ≡ false) (λ b h. not-true (b == 44) (and_parts (is_printable b) (not (b == 44)) h).1) stamp (AllPass-from_list_all is_stamp_byte stamp outer.1),
    )

-- ---- the line

-- the seven parts of a plain line, grouped to the right
regroup : (s a b c d e f : List ℕ) → (((((s ++ a) ++ b) ++ c) ++ d) ++ e) ++ f ≡ s ++ (a ++ (b ++ (c ++ (d ++ (e ++ f)))))
regroup s a b c d e f = simp append_assoc

lengths : (s a b c d e f : List ℕ) → length ((((((s ++ a) ++ b) ++ c) ++ d) ++ e) ++ f) ≡ length s + length a + length b + length c + length d + length e + length f
lengths s a b c d e f = simp length-append

-- a line that is short, not skipped, and not of the other format
pub plain_entry : (line : List ℕ) (packing : Packing) → length line ≤ 2048 → is_skipped line ≡ false → is_candump line ≡ false → entry line packing ≡ settled (plain packing line)
unfolding entry
plain_entry line packing short kept other = grind arith

module _ (p : PacketParts) (packing : Packing) (ok : IsPacketParts p) where
  stamp_is : (starts_stamp p.stamp ≡ true) × (length p.stamp ≤ 32) × HasNoComma p.stamp
  stamp_is = stamp_parts p.stamp ok.packet_ok.stamp_ok

  -- the text after the stamp
  abbrev after_stamp : List ℕ
  after_stamp =
      number_column p.id.prio ++ (number_column p.id.pgn ++ (number_column p.id.src ++ (number_column p.id.dst ++ (number_column (length p.payload) ++ flat_map byte_column p.payload))))

  line_is : plain_line p ≡ p.stamp ++ after_stamp
  unfolding plain_line
  line_is = regroup p.stamp (number_column p.id.prio) (number_column p.id.pgn) (number_column p.id.src) (number_column p.id.dst) (number_column (length p.payload)) (flat_map byte_column p.payload)

  line_short : length (plain_line p) ≤ 2048
  unfolding plain_line
  line_short = grind (arith, lengths, stamp_is, length-number_column, length-bytes)

  -- the columns after the stamp
  abbrev after : List (List ℕ)
  after =
      decimal p.id.prio ∷ decimal p.id.pgn ∷ decimal p.id.src ∷ decimal p.id.dst ∷ decimal (length p.payload) ∷ map byte_digits p.payload

  columns_are : columns (p.stamp ++ after_stamp) ≡ p.stamp ∷ after
  columns_are = grind (arith, next_column, stamp_is, number_no_comma, columns_of_bytes)

  packet_read : packet_of p.stamp after ≡ Ok p
  unfolding packet_of header id_of
  packet_read = grind (arith, bytes_of-pairs, length-map, bytes_read, number_reads)

  pub reads_back : entry (plain_line p) packing ≡ packed packing p
  reads_back = grind (arith, line_is, columns_are, plain_entry, line_short, packet_read)
