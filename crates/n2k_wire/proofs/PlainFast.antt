-- A plain line with everything in the places where canboat puts it.
use Rattle.std.proofs.Common.{◌≡◌, ℕ, zero, suc, ◌+◌, ◌-◌, ◌*◌, ◌%◌, ◌^◌, ◌<◌, ◌≤◌, Bool, true, false, cond, eqb, not, w8, List, [], ◌∷◌, ◌++◌, length, get_or, map, replicate, drop, take, Option, Some, None, Ok, refl, ap, sym, subst, ◌∙◌, arith, ◌==◌, IsTrue, append-nil, length-append, length-take-le, take-append-drop, take-take}
use Rattle.std.specs.Char.{is_ascii_digit, is_ascii_hexdigit}
use Rattle.std.specs.List.{list_all}
use Rattle.std.specs.Result.{result_ok}
use Rattle.std.proofs.lemmas.Bool.{and_parts, eqb-true, not-false}
use Rattle.std.proofs.lemmas.Simd.{bitmask_splat}
use Rattle.std.proofs.lemmas.List.Elements.{All-weaker}
use Rattle.std.proofs.lemmas.List.Sums.{AllPass-from_list_all}
use lib.Lanes.{mask_l, pick_l, top, zip2}
use Rattle.hex.specs.Hex.{decode_of}
use Rattle.n2k_wire.specs.declared.entry.Entry.{Entry}
use Rattle.n2k_wire.specs.declared.entry.Entry.TheVariants as entries
use Rattle.n2k_wire.specs.declared.entry.Packing.{Packing}
use Rattle.n2k_wire.specs.declared.entry.Packing.TheVariants as packings
use Rattle.n2k_wire.specs.declared.identifier.Id.{Id}
use Rattle.n2k_wire.specs.Digits.{decimal_number}
use Rattle.n2k_wire.specs.Entry.{entry}
use Rattle.n2k_wire.specs.Packet.{is_stamp, is_stamp_byte, starts_stamp}
use Rattle.n2k_wire.specs.Cuts.{after_byte}
use Rattle.n2k_wire.specs.Plain.{bytes_of, header, id_of, number_to, packet_of, pairs, columns, plain_packet}
use Rattle.n2k_wire.specs.Inner.Digits.{hex_value}
use Rattle.n2k_wire.specs.Inner.Plain.{AreRead, AreSpelled, IsIdBefore, IsNumberBefore, IsPackedOf, with_commas}
use Rattle.n2k_wire.proofs.CandumpBack.{is_other}
use Rattle.n2k_wire.proofs.HexDigits.{all_prefix, pair_spelled, spelled, spelled_bytes}
use Rattle.n2k_wire.proofs.PlainTexts.{partly}
use Rattle.n2k_wire.proofs.PlainLemmas.{bytes_of-pairs, regroup}
use Rattle.n2k_wire.proofs.ReadBack.{HasNoComma, last_column, next_column, plain_entry, stamp_parts}
use Rattle.n2k_wire.proofs.TextLemmas.{listed, listed_all}
use Rattle.n2k_wire.proofs.FastStamps.{follows, number_digits}

-- ---- the stamp

pub line_parts : (n : ℕ) (line stamp after text : List ℕ) → stamp ≡ take n line → after ≡ drop n line → after_byte 44 after ≡ Some text → line ≡ stamp ++ (44 ∷ text)
line_parts n line stamp after text stamp_is after_is comma = grind (arith, follows, take-append-drop)

pub is_found : (n : ℕ) (line prefix stamp : List ℕ) → prefix ≡ take 32 line → stamp ≡ take n line → n ≤ 32 → length stamp ≡ n → list_all is_stamp_byte (take n prefix) ≡ true → starts_stamp stamp ≡ true → IsTrue (is_stamp stamp)
is_found n line prefix stamp prefix_is stamp_is few long all starts = grind (arith, take-take n 32 line few)

-- ---- numbers

-- a column that was read as a number contains only digits
read_digits : (limit n : ℕ) (column : List ℕ) (read : Option ℕ) → decimal_number 10 column ≡ read → number_to limit column ≡ Some n → list_all is_ascii_digit column ≡ true
unfolding number_to
read_digits limit n column read e found = grind (arith, number_digits)

no_comma_among : (column : List ℕ) → list_all is_ascii_digit column ≡ true → HasNoComma column
no_comma_among column all = All-weaker (λ b. is_ascii_digit b ≡ true) (λ b. (b == 44) ≡ false) (is_other is_ascii_digit 44 refl) column (AllPass-from_list_all is_ascii_digit column all)

-- digits before a comma are a column
pub numbered : (limit n : ℕ) (text column after rest : List ℕ) → column ++ after ≡ text → after_byte 44 after ≡ Some rest → number_to limit column ≡ Some n → IsNumberBefore limit text n rest
numbered limit n text column after rest whole comma found = grind (arith, follows, no_comma_among, read_digits, next_column)

-- ---- columns that were read

-- columns read before, and then more
pub read_more : (all next rest : List (List ℕ)) (prefix bytes : List ℕ) → AreRead all prefix next → AreRead next bytes rest → AreRead all (prefix ++ bytes) rest
read_more all next rest prefix bytes a b = grind (arith, length-append, regroup)

-- all were read
pub all_read : (all : List (List ℕ)) (bytes : List ℕ) → AreRead all bytes [] → bytes_of (length bytes) all ≡ Some bytes
unfolding pairs
all_read all bytes is = bytes_of-pairs (length bytes) all (omega (arith, is.count)) ∙ is.read ∙ ap Some (append-nil bytes)

-- a frame's data
frame_made : (text stamp bytes : List ℕ) (id : Id) (e : Entry) → AreRead (columns text) bytes [] → length bytes ≡ 8 → e ≡ entries.Frame (record { stamp = stamp; id = id; payload = bytes })
    → IsPackedOf packings.Frames stamp id (bytes_of 8 (columns text)) e
frame_made text stamp bytes id e read eight is = grind (arith, all_read)

-- the first of the bytes taken
pub all_taken : (all more : List (List ℕ)) (room bytes last : List ℕ) (e len : ℕ) → AreRead all (take e room) more → AreRead more (take (len - e) last) [] → take (e + 8) bytes ≡ take e room ++ last
    → e ≤ length room → length last ≡ 8 → e < len → len ≤ e + 8 → bytes_of len all ≡ Some (take len bytes)
all_taken all more room bytes last e len first rest written inside eight past within = grind (arith, partly bytes room last e (len - e) 8 written (omega arith) inside, length-append (take e room) (take (len - e) last), length-take-le e room inside, length-take-le (len - e) last (omega arith), all_read all (take e room ++ take (len - e) last) (read_more all more [] (take e room) (take (len - e) last) first rest))

-- ---- digits with commas between them

two_no_comma : (a b : ℕ) → is_ascii_hexdigit a ≡ true → is_ascii_hexdigit b ≡ true → HasNoComma (a ∷ b ∷ [])
two_no_comma a b ea eb = grind (arith, is_other is_ascii_hexdigit 44 refl a ea, is_other is_ascii_hexdigit 44 refl b eb)

-- these columns follow a column that is before this text
abbrev Follow : List ℕ → List (List ℕ) → Type 0
Follow text more = (column : List ℕ) → HasNoComma column → columns (column ++ text) ≡ column ∷ more

one_read : (a b : ℕ) (text : List ℕ) (more : List (List ℕ)) → Follow text more → is_ascii_hexdigit a ≡ true → is_ascii_hexdigit b ≡ true → AreRead (columns (a ∷ b ∷ text)) ((hex_value a * 16 + hex_value b) ∷ []) more
unfolding pairs
one_read a b text more ends ea eb =
    let next = ends (a ∷ b ∷ []) (two_no_comma a b ea eb) in
    let read = pair_spelled a b ea eb in
    record { count = rw next (omega arith); read = rw (next, read) refl }

digits_read : (n : ℕ) (digits text : List ℕ) (more : List (List ℕ)) → Follow text more → list_all is_ascii_hexdigit digits ≡ true → length digits ≡ 2 * suc n → AreRead (columns (with_commas digits ++ text)) (spelled digits) more
unfolding with_commas spelled
digits_read n [] text more ends all e = absurd (omega arith)
digits_read n (a ∷ []) text more ends all e = absurd (omega arith)
digits_read n (a ∷ b ∷ []) text more ends all e =
    let ea = and_parts (is_ascii_hexdigit a) (list_all is_ascii_hexdigit (b ∷ [])) all in
    let eb = and_parts (is_ascii_hexdigit b) true ea.1 in
    one_read a b text more ends ea.0 eb.0
digits_read n (a ∷ b ∷ c ∷ rest) text more ends all e =
    let ea = and_parts (is_ascii_hexdigit a) (list_all is_ascii_hexdigit (b ∷ c ∷ rest)) all in
    let eb = and_parts (is_ascii_hexdigit b) (list_all is_ascii_hexdigit (c ∷ rest)) ea.1 in
    let others = with_commas (c ∷ rest) ++ text in
    read_more (columns (a ∷ b ∷ 44 ∷ others)) (columns others) more _ (spelled (c ∷ rest))
    (one_read a b (44 ∷ others) (columns others) (λ column alone. next_column column others alone) ea.0 eb.0)
    (digits_read (n - 1) (c ∷ rest) text more ends eb.1 (omega arith))

-- eight columns and the text after them
eight_read : (text bytes after : List ℕ) (more : List (List ℕ)) → AreSpelled text bytes → Follow after more → AreRead (columns (text ++ after)) bytes more
eight_read text bytes after more is ends = grind (arith, spelled_bytes 8 is.digits bytes is.hexadecimal is.count is.bytes_are, digits_read 7 is.digits after more ends is.hexadecimal is.count)

-- a comma and more columns follow
pub read_before : (text chunk bytes after rest : List ℕ) → AreSpelled chunk bytes → text ≡ chunk ++ after → after_byte 44 after ≡ Some rest → AreRead (columns text) bytes (columns rest)
read_before text chunk bytes after rest is whole comma = grind (arith, eight_read chunk bytes after (columns rest) is (λ column alone. ap (λ t. columns (column ++ t)) (follows 44 after rest comma) ∙ next_column column rest alone))

nothing_more : Follow [] []
nothing_more column alone = ap columns (append-nil column) ∙ last_column column alone

-- nothing follows
pub read_alone : (text bytes : List ℕ) → AreSpelled text bytes → AreRead (columns text) bytes []
read_alone text bytes is = subst (λ t. AreRead (columns t) bytes []) (append-nil text) (eight_read text bytes [] [] is nothing_more)

two_more : (j : ℕ) → 2 * suc j ≡ suc (suc (2 * j))
two_more j = omega arith

three_more : (j : ℕ) → 3 * suc j ≡ suc (suc (suc (3 * j)))
three_more j = omega arith

-- the first columns, and their bytes
prefix_columns : (j : ℕ) (digits : List ℕ) → take (suc (suc (3 * j))) (with_commas digits) ≡ with_commas (take (suc (suc (2 * j))) digits)
unfolding with_commas
prefix_columns zero [] = refl
prefix_columns zero (a ∷ []) = refl
prefix_columns zero (a ∷ b ∷ []) = refl
prefix_columns zero (a ∷ b ∷ c ∷ more) = refl
prefix_columns (suc j) [] = refl
prefix_columns (suc j) (a ∷ []) = refl
prefix_columns (suc j) (a ∷ b ∷ []) = rw (three_more j, two_more j) refl
prefix_columns (suc j) (a ∷ b ∷ c ∷ more) = rw (three_more j, two_more j) (ap (λ (t : List ℕ). a ∷ b ∷ 44 ∷ t) (prefix_columns j (c ∷ more)))

prefix_spelled : (j : ℕ) (digits : List ℕ) → spelled (take (suc (suc (2 * j))) digits) ≡ take (suc j) (spelled digits)
unfolding spelled
prefix_spelled zero [] = refl
prefix_spelled zero (a ∷ []) = refl
prefix_spelled zero (a ∷ b ∷ more) = refl
prefix_spelled (suc j) [] = refl
prefix_spelled (suc j) (a ∷ []) = refl
prefix_spelled (suc j) (a ∷ b ∷ more) = rw (two_more j) (ap (λ (t : List ℕ). (hex_value a * 16 + hex_value b) ∷ t) (prefix_spelled j more))

-- the text is the first of eight columns
pub read_last : (text padded bytes : List ℕ) (count : ℕ) → AreSpelled padded bytes → take (length text) padded ≡ text → length text + 1 ≡ 3 * count → 1 ≤ count → count ≤ 8 → AreRead (columns text) (take count bytes) []
read_last text padded bytes zero is prefix_is long some few = absurd (omega arith)
read_last text padded bytes (suc j) is prefix_is long some few =
    let prefix = take (suc (suc (2 * j))) is.digits in
    let len : length text ≡ suc (suc (3 * j)) = omega arith in
    let text_is : with_commas prefix ≡ text = sym (ap (take (suc (suc (3 * j)))) is.text_is ∙ prefix_columns j is.digits) ∙ (rw len at prefix_is) in
    let same : spelled prefix ≡ take (suc j) bytes = prefix_spelled j is.digits ∙ ap (take (suc j)) (spelled_bytes 8 is.digits bytes is.hexadecimal is.count is.bytes_are) in
    let two : length prefix ≡ 2 * suc j = length-take-le (suc (suc (2 * j))) is.digits (omega (arith, is.count)) ∙ omega arith in
    let read = digits_read j prefix [] [] nothing_more (all_prefix is_ascii_hexdigit (suc (suc (2 * j))) is.digits is.hexadecimal) two in
    subst (λ t. AreRead (columns t) (take (suc j) bytes) []) (append-nil (with_commas prefix) ∙ text_is) (subst (λ bs. AreRead (columns (with_commas prefix ++ [])) bs []) same read)

-- ---- by their places

no_bit : (m : Bool) (rest : ℕ) → cond m 1 0 + 2 * rest ≡ 0 → (m ≡ false) × (rest ≡ 0)
no_bit m rest none = grind arith

all_commas : (lanes : List ℕ) → mask_l (map (λ b. not (eqb b 44)) lanes) ≡ 0 → (i : ℕ) → i < length lanes → get_or lanes i 0 ≡ 44
all_commas [] none i within = absurd (omega arith)
all_commas (b ∷ lanes) none zero within = eqb-true b 44 (not-false (eqb b 44) (no_bit (not (eqb b 44)) (mask_l (map (λ b. not (eqb b 44)) lanes)) none).0)
all_commas (b ∷ lanes) none (suc i) within = all_commas lanes (no_bit (not (eqb b 44)) (mask_l (map (λ b. not (eqb b 44)) lanes)) none).1 i (omega arith)

-- the bytes of eight columns, as two vectors
abbrev pub lanes_of : List ℕ → List ℕ
lanes_of text = take 16 text ++ take 16 (take 16 (drop 7 text))

abbrev pub digits_of : List ℕ → List ℕ
digits_of lanes = pick_l 0 lanes (0 ∷ 1 ∷ 3 ∷ 4 ∷ 6 ∷ 7 ∷ 9 ∷ 10 ∷ 12 ∷ 13 ∷ 15 ∷ 25 ∷ 27 ∷ 28 ∷ 30 ∷ 31 ∷ [])

abbrev pub commas_of : List ℕ → List ℕ
commas_of lanes = pick_l 0 lanes (2 ∷ 5 ∷ 8 ∷ 11 ∷ 14 ∷ 26 ∷ 29 ∷ 29 ∷ 29 ∷ 29 ∷ 29 ∷ 29 ∷ 29 ∷ 29 ∷ 29 ∷ 29 ∷ [])

pub eight_spelled : (text bytes : List ℕ) → length text ≡ 23 → mask_l (map (top 7) (zip2 (λ a b. cond (not (eqb a b)) 255 0) (commas_of (lanes_of text)) (replicate 16 44))) % 2 ^ 64 ≡ 0
    → list_all is_ascii_hexdigit (digits_of (lanes_of text)) ≡ true → result_ok (decode_of (digits_of (lanes_of text))) ≡ Some bytes → AreSpelled text bytes
unfolding listed with_commas
eight_spelled text bytes long commas hex decoded =
    let each : text ≡ listed 23 0 text = listed_all 23 0 text long in
    let none = sym (bitmask_splat w8 (λ a b. not (eqb a b)) (commas_of (lanes_of (listed 23 0 text))) 16 44 refl (omega arith)) ∙ (subst (λ t. mask_l (map (top 7) (zip2 (λ a b. cond (not (eqb a b)) 255 0) (commas_of (lanes_of t)) (replicate 16 44))) % 2 ^ 64 ≡ 0) each commas) in
    let comma = all_commas (commas_of (lanes_of (listed 23 0 text))) none in
    record {
      digits = digits_of (lanes_of (listed 23 0 text));
      text_is = each ∙ (rw (comma 0 (omega arith), comma 1 (omega arith), comma 2 (omega arith), comma 3 (omega arith), comma 4 (omega arith), comma 5 (omega arith), comma 6 (omega arith)) refl);
      hexadecimal = subst (λ t. list_all is_ascii_hexdigit (digits_of (lanes_of t)) ≡ true) each hex;
      count = refl;
      bytes_are = subst (λ t. result_ok (decode_of (digits_of (lanes_of t))) ≡ Some bytes) each decoded;
    }

-- ---- the line

-- the packet of a line, by its parts
packet_read : (line stamp text after rest payload : List ℕ) (id : Id) (n : ℕ) → line ≡ stamp ++ (44 ∷ text) → IsTrue (is_stamp stamp) → IsIdBefore text id after → IsNumberBefore 223 after n rest → bytes_of n (columns rest) ≡ Some payload
    → plain_packet line ≡ Ok (record { stamp = stamp; id = id; payload = payload })
unfolding packet_of header id_of
packet_read line stamp text after rest payload id n line_is ok (pgn, src, dst, first, second, third, fourth) len bytes = grind (arith, next_column, stamp_parts)

-- the entry of a line, by its parts and its data
pub entry_read : (packing : Packing) (line stamp text after rest : List ℕ) (id : Id) (n : ℕ) (e : Entry) → line ≡ stamp ++ (44 ∷ text) → length line ≤ 2048 → IsTrue (is_stamp stamp) → IsIdBefore text id after → IsNumberBefore 223 after n rest
    → (bytes : Option (List ℕ)) → bytes_of n (columns rest) ≡ bytes → IsPackedOf packing stamp id bytes e → e ≡ entry line packing
entry_read packing line stamp text after rest id n e line_is short ok is len None read made = absurd cc
entry_read packing line stamp text after rest id n e line_is short ok is len (Some payload) read made = grind (arith, packet_read line stamp text after rest payload id n line_is ok is len read, plain_entry)

-- the frame of a line with eight bytes of data
pub frame_line : (line stamp text after rest eight bytes : List ℕ) (id : Id) (e : Entry) → line ≡ stamp ++ (44 ∷ text) → length line ≤ 2048 → IsTrue (is_stamp stamp) → IsIdBefore text id after → IsNumberBefore 223 after 8 rest
    → eight ≡ rest → AreSpelled eight bytes → length bytes ≡ 8 → e ≡ entries.Frame (record { stamp = stamp; id = id; payload = bytes }) → e ≡ entry line packings.Frames
frame_line line stamp text after rest eight bytes id e line_is short ok is len eight_is are long made =
    entry_read packings.Frames line stamp text after rest id 8 e line_is short ok is len _ refl (frame_made rest stamp bytes id e (rw eight_is at (read_alone eight bytes are)) long made)
