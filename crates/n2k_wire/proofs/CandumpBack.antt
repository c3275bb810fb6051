-- The candump line of a packet is read as the frame of that packet.
use Rattle.std.proofs.Common.{◌≡◌, ℕ, zero, suc, ◌+◌, ◌-◌, ◌*◌, ◌/◌, ◌%◌, ◌^◌, ◌<◌, ◌≤◌, Bool, true, false, not, List, [], ◌∷◌, ◌++◌, length, drop, Some, Ok, refl, ◌∙◌, append_assoc, length-append, arith, inl, inr, codes, position, slice_index, IsTrue, ◌==◌}
use Rattle.std.specs.Char.{is_ascii_digit, is_ascii_hexdigit}
use Rattle.std.specs.Int.{w32, to_be_bytes}
use Rattle.std.specs.List.{list_all, position_or_len}
use Rattle.std.proofs.lemmas.Bool.{agree_below_at, and_parts, cases_Bool, eq-eqb, eqb-true}
use Rattle.std.proofs.lemmas.List.{append_cancel_right, length-drop}
use Rattle.std.proofs.lemmas.List.Folds.{list_all-append}
use Rattle.std.proofs.Math.Seq.{drop-append-add, drop-length, take-append_seam, take-length}
use Rattle.hex.specs.Hex.{IsBytes, encode_upper, encode_with, upper_digits}
use Rattle.hex.proofs.HexLemmas.{decode_of-encode_upper, length-encode_with}
use Rattle.n2k_wire.specs.declared.entry.Entry.{Entry}
use Rattle.n2k_wire.specs.declared.entry.Entry.TheVariants as entries
use Rattle.n2k_wire.specs.declared.entry.Packing.{Packing}
use Rattle.n2k_wire.specs.Candump.{stamped, framed, is_interface, is_interface_byte, identifier, is_other_frame, is_ending, payload, frame_or_skip, candump}
use Rattle.n2k_wire.specs.Digits.{decimal_digit, decimal_after, decimal_number}
use Rattle.n2k_wire.specs.Entry.{entry, settled}
use Rattle.n2k_wire.specs.Identifier.{join, split}
use Rattle.n2k_wire.specs.Packet.{PacketParts, IsPacketParts}
use Rattle.n2k_wire.specs.Cuts.{cut_at, after_byte, skip_spaces}
use Rattle.n2k_wire.specs.Stamp.{Moment, moment, three_digits, millis_digits, utc_text, utc_moment}
use Rattle.n2k_wire.specs.Texts.{second_digits, candump_line, candump_parts, candump_text}
use Rattle.n2k_wire.specs.Inner.Stamp.{IsMoment}
use Rattle.n2k_wire.proofs.CandumpLemmas.{name_parts, seconds_short}
use Rattle.n2k_wire.proofs.DigitLemmas.{after-none}
use Rattle.n2k_wire.proofs.HexDigits.{all_digits}
use Rattle.n2k_wire.proofs.IdentifierLemmas.{join_split, join_bits}
use Rattle.n2k_wire.proofs.ReadBack.{decimal_reads, digit_reads}
use Rattle.n2k_wire.proofs.UtcBack.{found, utc_back}

-- ---- a text cut at its first separator

-- none of the bytes passes
abbrev HasNone : (ℕ → Bool) → List ℕ → Type 0
HasNone p xs = list_all (λ b. not (p b)) xs ≡ true

head_fails : (p : ℕ → Bool) (b : ℕ) (xs : List ℕ) → HasNone p (b ∷ xs) → (p b ≡ false) × HasNone p xs
head_fails p b xs none = grind arith

place_after : (p : ℕ → Bool) (prefix rest : List ℕ) (b : ℕ) → HasNone p prefix → p b ≡ true → position_or_len p (prefix ++ (b ∷ rest)) ≡ length prefix
place_after p [] rest b none passes = rw passes refl
place_after p (x ∷ prefix) rest b none passes = grind (arith, place_after p prefix rest b (head_fails p x prefix none).1 passes)

found_after : (p : ℕ → Bool) (prefix rest : List ℕ) (b : ℕ) → HasNone p prefix → p b ≡ true → position p (prefix ++ (b ∷ rest)) ≡ Some (length prefix)
found_after p prefix rest b none passes = grind (arith, place_after, length-append)

pub cut_after : (separator : ℕ) (prefix rest : List ℕ) → HasNone (λ b. b == separator) prefix → cut_at separator (prefix ++ (separator ∷ rest)) ≡ Some (prefix, rest)
unfolding cut_at
cut_after separator prefix rest none =
    let same : (separator == separator) ≡ true = eq-eqb separator separator refl in
    let after : drop (length prefix + 1) (prefix ++ (separator ∷ rest)) ≡ rest = drop-append-add prefix (separator ∷ rest) 1 in
    rw (found_after (λ b. b == separator) prefix rest separator none same, take-append_seam prefix (separator ∷ rest), after) refl

-- a text that begins with no space
no_space : (b : ℕ) (rest : List ℕ) → (b == 32) ≡ false → skip_spaces (b ∷ rest) ≡ Some (b ∷ rest)
unfolding skip_spaces
no_space b rest other = grind arith

no_space_in_front : (text rest : List ℕ) → 0 < length text → HasNone (λ b. b == 32) text → skip_spaces (text ++ rest) ≡ Some (text ++ rest)
no_space_in_front [] rest some none = absurd (omega arith)
no_space_in_front (b ∷ text) rest some none = no_space b (text ++ rest) (head_fails (λ x. x == 32) b text none).0

-- bytes of one kind are none of another
pub none_of : (p q : ℕ → Bool) → ((b : ℕ) → p b ≡ true → q b ≡ false) → (xs : List ℕ) → list_all p xs ≡ true → HasNone q xs
none_of p q apart [] all = refl
none_of p q apart (b ∷ xs) all = grind (arith, none_of p q apart xs (and_parts (p b) (list_all p xs) all).1)

-- ---- the moment

-- a text that is read as a number contains only digits
pub digits_alone : (before n : ℕ) (text : List ℕ) → decimal_after before text ≡ Some n → list_all is_ascii_digit text ≡ true
unfolding decimal_after decimal_digit
digits_alone before n [] e = refl
digits_alone before n (b ∷ text) e =
    elim (cases_Bool (is_ascii_digit b)) [
      | inl digit ↦ rw digit (digits_alone (10 * before + (b - 48)) n text (rw digit at e))
      | inr other ↦ absurd (let none = rw other at e in cc)
    ]

-- leading zeros change no number
zero_read : (text : List ℕ) → decimal_after 0 (48 ∷ text) ≡ decimal_after 0 text
unfolding decimal_after decimal_digit
zero_read text = refl

zeros_read : (zeros text : List ℕ) → list_all (λ b. b == 48) zeros ≡ true → decimal_after 0 (zeros ++ text) ≡ decimal_after 0 text
zeros_read [] text all = refl
zeros_read (b ∷ zeros) text all = grind (arith, zeros_read zeros text (and_parts (b == 48) (list_all (λ x. x == 48) zeros) all).1, zero_read)

all_dropped : (p : ℕ → Bool) (n : ℕ) (xs : List ℕ) → list_all p xs ≡ true → list_all p (drop n xs) ≡ true
all_dropped p zero xs all = all
all_dropped p (suc n) [] all = refl
all_dropped p (suc n) (x ∷ xs) all = all_dropped p n xs (and_parts (p x) (list_all p xs) all).1

-- the seconds with their zeros are read as the seconds
seconds_after : (n : ℕ) → n ≤ 253402300799 → decimal_after 0 (second_digits n) ≡ Some n
seconds_after n few = grind (arith, zeros_read, all_dropped, decimal_reads)

pub length-seconds : (n : ℕ) → n ≤ 253402300799 → (0 < length (second_digits n)) × (length (second_digits n) ≤ 12)
length-seconds n few = grind (arith, length-append, length-drop, seconds_short)

pub number_is : (most n : ℕ) (text : List ℕ) → 0 < length text → length text ≤ most → decimal_after 0 text ≡ Some n → decimal_number most text ≡ Some n
unfolding decimal_number
number_is most n text some few e = grind arith

one_more : (before d : ℕ) (text : List ℕ) → d < 10 → decimal_after before ((48 + d) ∷ text) ≡ decimal_after (10 * before + d) text
unfolding decimal_after
one_more before d text small = rw (digit_reads d small) refl

millis_after : (n : ℕ) (more : List ℕ) → n ≤ 999 → decimal_after 0 (millis_digits n ++ more) ≡ decimal_after n more
millis_after n more few = grind (arith, one_more)

fraction_after : (n : ℕ) → n ≤ 999 → decimal_after 0 (millis_digits n ++ codes "000") ≡ Some (10 * (10 * (10 * n + 0) + 0) + 0)
fraction_after n few =
    millis_after n (codes "000") few ∙ one_more n 0 (codes "00") (omega arith) ∙ one_more (10 * n + 0) 0 (codes "0") (omega arith) ∙ one_more (10 * (10 * n + 0) + 0) 0 [] (omega arith) ∙ after-none (10 * (10 * (10 * n + 0) + 0) + 0)

-- a byte of one kind is not one of another
pub is_other : (p : ℕ → Bool) (c : ℕ) → p c ≡ false → (b : ℕ) → p b ≡ true → (b == c) ≡ false
is_other p c none b some = elim (cases_Bool (b == c)) [ inl same ↦ absurd (let e : b ≡ c = eqb-true b c same in let both = rw e at some in cc) | inr differs ↦ differs ]

-- the text between the parentheses is read as the moment
moment_read : (seen : Moment) → IsMoment seen → moment (second_digits seen.seconds ++ (46 ∷ (millis_digits seen.millis ++ codes "000"))) ≡ Some seen
unfolding moment three_digits
moment_read seen fits = grind (arith, number_is 12 seen.seconds (second_digits seen.seconds) (length-seconds seen.seconds fits.seconds_fit).0 (length-seconds seen.seconds fits.seconds_fit).1 (seconds_after seen.seconds fits.seconds_fit), number_is 9 (10 * (10 * (10 * seen.millis + 0) + 0) + 0) (millis_digits seen.millis ++ codes "000") (omega arith) (omega arith) (fraction_after seen.millis fits.millis_fit), number_is 3 seen.millis (millis_digits seen.millis) (omega arith) (omega arith) (millis_after seen.millis [] fits.millis_fit ∙ after-none seen.millis), cut_after 46 (second_digits seen.seconds) (millis_digits seen.millis ++ codes "000") (none_of is_ascii_digit (λ b. b == 46) (is_other is_ascii_digit 46 refl) (second_digits seen.seconds) (digits_alone 0 seen.seconds (second_digits seen.seconds) (seconds_after seen.seconds fits.seconds_fit))))

-- ---- hexadecimal digits

upper_hex : (d : ℕ) → d < 16 → is_ascii_hexdigit (slice_index upper_digits d) ≡ true
upper_hex d small = agree_below_at (λ k. is_ascii_hexdigit (slice_index upper_digits k)) (λ k. true) 16 d refl small

upper_hexes : (bytes : List ℕ) → IsBytes bytes → list_all is_ascii_hexdigit (encode_upper bytes) ≡ true
unfolding encode_with
upper_hexes [] ok = refl
upper_hexes (b ∷ bytes) ok =
    let small : b < 256 = ok 0 in
    let high : is_ascii_hexdigit (slice_index upper_digits (b / 16)) ≡ true = upper_hex (b / 16) (omega arith) in
    let low : is_ascii_hexdigit (slice_index upper_digits (b % 16)) ≡ true = upper_hex (b % 16) (omega arith) in
    rw (high, low) (upper_hexes bytes (λ i. ok (suc i)))

-- ---- the parts after the stamp

no_hex_in : (c : ℕ) → is_ascii_hexdigit c ≡ false → (text : List ℕ) → list_all is_ascii_hexdigit text ≡ true → HasNone (λ b. b == c) text
no_hex_in c other text all = none_of is_ascii_hexdigit (λ b. b == c) (is_other is_ascii_hexdigit c other) text all

pub framed_read : (name digits after : List ℕ) → is_interface name ≡ true → 0 < length digits → list_all is_ascii_hexdigit digits ≡ true
    → framed (32 ∷ (name ++ (32 ∷ (digits ++ (35 ∷ after))))) ≡ Some (digits, after)
unfolding framed after_byte
framed_read name digits after ok some hex =
    let parts = name_parts name ok in
    let none = none_of is_interface_byte (λ b. b == 32) (is_other is_interface_byte 32 refl) name parts.2 in
    rw (no_space_in_front name (32 ∷ (digits ++ (35 ∷ after))) parts.0 none, cut_after 32 name (digits ++ (35 ∷ after)) none, ok, no_space_in_front digits (35 ∷ after) some (no_hex_in 32 refl digits hex), cut_after 35 digits after (no_hex_in 35 refl digits hex)) refl

word_bytes : (n : ℕ) → IsBytes (to_be_bytes w32 n)
word_bytes n zero = omega arith
word_bytes n (suc zero) = omega arith
word_bytes n (suc (suc zero)) = omega arith
word_bytes n (suc (suc (suc zero))) = omega arith
word_bytes n (suc (suc (suc (suc i)))) = omega arith

identifier_read : (n : ℕ) → n < 2 ^ 29 → identifier (encode_upper (to_be_bytes w32 n)) ≡ Ok (Some n)
unfolding identifier
identifier_read n bits = grind (arith, length-encode_with, decode_of-encode_upper, upper_hexes)

pub no_other_frame : (text : List ℕ) → list_all is_ascii_hexdigit text ≡ true → is_other_frame text ≡ false
unfolding is_other_frame
no_other_frame [] all = refl
no_other_frame (b ∷ text) all = grind arith

no_ending : is_ending [] ≡ true
unfolding is_ending
no_ending = refl

payload_read : (bytes : List ℕ) → IsBytes bytes → length bytes ≤ 8 → payload (encode_upper bytes) ≡ Some bytes
unfolding payload
payload_read bytes ok short = grind (arith, all_digits is_ascii_hexdigit (encode_upper bytes) (upper_hexes bytes ok), length-encode_with upper_digits bytes, drop-length (encode_upper bytes), take-length (encode_upper bytes), decode_of-encode_upper bytes ok, no_ending)

frame_read : (seen : Moment) (n : ℕ) (bytes : List ℕ) → IsBytes bytes → length bytes ≤ 8
    → frame_or_skip seen (Some n) (encode_upper bytes) ≡ Ok (entries.Frame (record { stamp = utc_text seen; id = split n; payload = bytes }))
unfolding frame_or_skip
frame_read seen n bytes ok short = rw (no_other_frame (encode_upper bytes) (upper_hexes bytes ok), payload_read bytes ok short) refl

-- ---- the line

stamped_read : (seen : Moment) (rest : List ℕ) → IsMoment seen
    → stamped (40 ∷ ((second_digits seen.seconds ++ (46 ∷ (millis_digits seen.millis ++ codes "000"))) ++ (41 ∷ rest))) ≡ Some (second_digits seen.seconds ++ (46 ∷ (millis_digits seen.millis ++ codes "000")), rest)
unfolding stamped after_byte
stamped_read seen rest fits = grind (arith, none_of is_ascii_digit (λ b. b == 41) (is_other is_ascii_digit 41 refl) (second_digits seen.seconds) (digits_alone 0 seen.seconds (second_digits seen.seconds) (seconds_after seen.seconds fits.seconds_fit)), list_all-append (λ b. not (b == 41)) (second_digits seen.seconds) (46 ∷ (millis_digits seen.millis ++ codes "000")), cut_after)

grouped : (seconds millis name digits after : List ℕ)
    → (codes "(" ++ seconds ++ codes "." ++ millis ++ codes "000) " ++ name ++ codes " " ++ digits ++ codes "#" ++ after)
    ≡ 40 ∷ ((seconds ++ (46 ∷ (millis ++ codes "000"))) ++ (41 ∷ (32 ∷ (name ++ (32 ∷ (digits ++ (35 ∷ after)))))))
grouped seconds millis name digits after = simp append_assoc

-- a line that begins as candump's do
pub candump_entry : (rest : List ℕ) (packing : Packing) → length (40 ∷ rest) ≤ 2048 → entry (40 ∷ rest) packing ≡ settled (candump (40 ∷ rest))
unfolding entry
candump_entry rest packing short = grind arith

candump_by : (line outer text digits after : List ℕ) (seen : Moment) (n : ℕ) (found : Entry) → stamped line ≡ Some (outer, text) → moment outer ≡ Some seen → framed text ≡ Some (digits, after)
    → identifier digits ≡ Ok (Some n) → frame_or_skip seen (Some n) after ≡ Ok found → candump line ≡ Ok found
unfolding candump
candump_by line outer text digits after seen n found es em ef ei er = rw (es, em, ef, ei, er) refl

module _ (p : PacketParts) (name : List ℕ) (packing : Packing) (seen : Moment) (n : ℕ) (ok : IsPacketParts p) (short : length p.payload ≤ 8) (named : is_interface name ≡ true) (stamp : utc_moment p.stamp ≡ Some seen) (joined : join p.id ≡ Some n) where
  abbrev digits : List ℕ
  digits = encode_upper (to_be_bytes w32 n)

  abbrev after : List ℕ
  after = encode_upper p.payload

  abbrev outer : List ℕ
  outer = second_digits seen.seconds ++ (46 ∷ (millis_digits seen.millis ++ codes "000"))

  abbrev text : List ℕ
  text = 32 ∷ (name ++ (32 ∷ (digits ++ (35 ∷ after))))

  line_is : candump_line name seen n p.payload ≡ 40 ∷ (outer ++ (41 ∷ text))
  unfolding candump_line
  line_is = grouped (second_digits seen.seconds) (millis_digits seen.millis) name (encode_upper (to_be_bytes w32 n)) (encode_upper p.payload)

  utc : (utc_text seen ≡ p.stamp) × IsMoment seen
  utc = utc_back p.stamp seen stamp

  bits : n < 2 ^ 29
  bits = join_bits p.id n (omega (arith, ok.src_ok)) (omega (arith, ok.dst_ok)) joined

  line_short : length (40 ∷ (outer ++ (41 ∷ text))) ≤ 2048
  line_short = grind (arith, length-append, length-encode_with, length-seconds, utc, name_parts)

  candump_is : candump (40 ∷ (outer ++ (41 ∷ text))) ≡ Ok (entries.Frame (record { stamp = utc_text seen; id = split n; payload = p.payload }))
  candump_is =
      let some : 0 < length (encode_upper (to_be_bytes w32 n)) = omega (arith, length-encode_with upper_digits (to_be_bytes w32 n)) in
      candump_by _ _ _ _ _ seen n _
      (stamped_read seen (32 ∷ (name ++ (32 ∷ (encode_upper (to_be_bytes w32 n) ++ (35 ∷ encode_upper p.payload))))) utc.1)
      (moment_read seen utc.1)
      (framed_read name (encode_upper (to_be_bytes w32 n)) (encode_upper p.payload) named some (upper_hexes (to_be_bytes w32 n) (word_bytes n)))
      (identifier_read n bits)
      (frame_read seen n p.payload ok.bytes_ok short)

  same : (record { stamp = utc_text seen; id = split n; payload = p.payload }) ≡ p
  same = grind (arith, join_split, utc)

  pub line_back : entry (candump_line name seen n p.payload) packing ≡ entries.Frame p
  line_back = grind (arith, line_is, candump_entry, line_short, candump_is, same)

pub candump_reads_back : (p : PacketParts) (name line : List ℕ) (packing : Packing) → IsPacketParts p → length p.payload ≤ 8 → IsTrue (is_interface name) → candump_text name p ≡ Ok (line ++ codes "\n") → entry line packing ≡ entries.Frame p
unfolding candump_parts
candump_reads_back p name line packing ok short named e = grind (arith, append_cancel_right, line_back)
