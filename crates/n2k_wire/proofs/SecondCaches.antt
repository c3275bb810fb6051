-- The second that lines in a row share: their first bytes, and its text with the milliseconds of each line.
use Rattle.std.proofs.Common.{◌≡◌, ℕ, ◌+◌, ◌-◌, ◌*◌, ◌≤◌, true, List, [], ◌∷◌, ◌++◌, length, get_or, set, take, drop, Some, refl, ap, sym, ◌∙◌, arith, append_assoc, codes, IsTrue, length-take-le, take-append-drop}
use Rattle.std.specs.Char.{is_ascii_digit}
use Rattle.std.specs.List.{list_all}
use Rattle.std.proofs.lemmas.Bool.{and_parts, eq-eqb}
use Rattle.n2k_wire.specs.Digits.{decimal_after, decimal_digit, decimal_number}
use Rattle.n2k_wire.specs.Packet.{is_stamp}
use Rattle.n2k_wire.specs.Cuts.{after_byte}
use Rattle.n2k_wire.specs.Inner.Candump.{IsSecondPrefix, stamp_after}
use Rattle.n2k_wire.specs.Stamp.{millis_digits, three_digits, utc_text}
use Rattle.n2k_wire.proofs.CandumpBack.{number_is}
use Rattle.n2k_wire.proofs.FastStamps.{follows, usual}
use Rattle.n2k_wire.proofs.UtcBack.{three_back}
use Rattle.n2k_wire.proofs.UtcStamps.{utc_is_stamp}

-- digits are read as a number
digits_read : (before : ℕ) (text : List ℕ) → list_all is_ascii_digit text ≡ true → (n : ℕ) × (decimal_after before text ≡ Some n)
unfolding decimal_after decimal_digit
digits_read before [] all = (before, refl)
digits_read before (b ∷ text) all = grind (arith, digits_read (10 * before + (b - 48)) text (and_parts (is_ascii_digit b) (list_all is_ascii_digit text) all).1)

pub number_read : (most : ℕ) (text : List ℕ) → list_all is_ascii_digit text ≡ true → 1 ≤ length text → length text ≤ most → (n : ℕ) × (decimal_number most text ≡ Some n) × (decimal_after 0 text ≡ Some n)
number_read most text all some few =
    let read = digits_read 0 text all in
    (read.0, number_is most read.0 text some few read.1, read.1)

opens : (byte : ℕ) (rest : List ℕ) → after_byte byte (byte ∷ rest) ≡ Some rest
unfolding after_byte
opens byte rest = rw (eq-eqb byte byte refl) refl

-- the start of a line with up to twelve digits
pub prefix_read : (prefix seconds : List ℕ) (s : ℕ) → prefix ≡ 40 ∷ (seconds ++ (46 ∷ [])) → decimal_number 12 seconds ≡ Some s → s ≤ 253402300799 → IsSecondPrefix prefix s
prefix_read prefix seconds s is read small fraction rest f m part third = grind (arith, usual (40 ∷ ((seconds ++ (46 ∷ fraction)) ++ (41 ∷ rest))) ((seconds ++ (46 ∷ fraction)) ++ (41 ∷ rest)) (seconds ++ (46 ∷ fraction)) (41 ∷ rest) rest seconds (46 ∷ fraction) fraction s f m (opens 40 ((seconds ++ (46 ∷ fraction)) ++ (41 ∷ rest))) refl (opens 41 rest) refl (opens 46 fraction) read part third small, append_assoc)

-- the start of a line of 1970's first second
pub first_prefix : IsSecondPrefix (codes "(0000000000.") 0
unfolding decimal_number decimal_after decimal_digit
first_prefix = prefix_read (codes "(0000000000.") (codes "0000000000") 0 refl refl (omega arith)

-- the parts of the start of a line
pub prefix_parts : (prefix inner digits point rest : List ℕ) → length prefix ≡ 12 → after_byte 40 prefix ≡ Some inner → digits ≡ take 10 inner → point ≡ drop 10 inner → after_byte 46 point ≡ Some rest
    → prefix ≡ 40 ∷ (digits ++ (46 ∷ []))
prefix_parts prefix inner digits point [] twelve opened digits_is point_is pointed =
    let inner_is : inner ≡ digits ++ (46 ∷ []) = sym (rw (digits_is, sym (follows 46 point [] pointed), point_is) (take-append-drop 10 inner)) in
    follows 40 prefix inner opened ∙ ap (λ (t : List ℕ). 40 ∷ t) inner_is
prefix_parts prefix inner digits point (b ∷ rest) twelve opened digits_is point_is pointed = grind (arith, follows)

-- the first bytes of a text and the rest
pub first_chunk : (n : ℕ) (text prefix rest : List ℕ) → prefix ≡ take n text → rest ≡ drop n text → length rest + n ≡ length text → (length prefix ≡ n) × (text ≡ prefix ++ rest)
first_chunk n text prefix rest prefix_is rest_is long = grind (arith, length-take-le, take-append-drop)

-- a line that begins so, by the text of its stamp
pub stamped_on : (prefix fraction rest : List ℕ) (seconds : ℕ) → IsSecondPrefix prefix seconds → seconds ≤ 253402300799 → list_all is_ascii_digit fraction ≡ true → length fraction ≡ 6
    → (m : ℕ) × (stamp_after (prefix ++ (fraction ++ (41 ∷ rest))) ≡ Some (utc_text (record { seconds = seconds; millis = m }), rest)) × (millis_digits m ≡ three_digits fraction) × (m ≤ 999)
unfolding three_digits
stamped_on prefix [] rest seconds is small all six = absurd (omega arith)
stamped_on prefix (a ∷ []) rest seconds is small all six = absurd (omega arith)
stamped_on prefix (a ∷ b ∷ []) rest seconds is small all six = absurd (omega arith)
stamped_on prefix (a ∷ b ∷ c ∷ more) rest seconds is small all six =
    let ea = and_parts (is_ascii_digit a) (list_all is_ascii_digit (b ∷ c ∷ more)) all in
    let eb = and_parts (is_ascii_digit b) (list_all is_ascii_digit (c ∷ more)) ea.1 in
    let ec = and_parts (is_ascii_digit c) (list_all is_ascii_digit more) eb.1 in
    let three : list_all is_ascii_digit (a ∷ b ∷ c ∷ []) ≡ true = rw (ea.0, eb.0, ec.0) refl in
    let whole = number_read 9 (a ∷ b ∷ c ∷ more) all (omega arith) (omega arith) in
    let millis = number_read 3 (a ∷ b ∷ c ∷ []) three (omega arith) (omega arith) in
    let back = three_back millis.0 (a ∷ b ∷ c ∷ []) refl millis.2 in
    (millis.0, is (a ∷ b ∷ c ∷ more) rest whole.0 millis.0 whole.1 millis.1, back.0, omega (arith, back.1))

-- a text of a second with other milliseconds
pub millis_put : (text fraction : List ℕ) (seconds m : ℕ) → text ≡ utc_text (record { seconds = seconds; millis = 0 }) → length fraction ≡ 6 → millis_digits m ≡ three_digits fraction
    → set (set (set text 20 (get_or fraction 0 0)) 21 (get_or fraction 1 0)) 22 (get_or fraction 2 0) ≡ utc_text (record { seconds = seconds; millis = m })
unfolding utc_text three_digits
millis_put text [] seconds m is six three = absurd (omega arith)
millis_put text (a ∷ []) seconds m is six three = absurd (omega arith)
millis_put text (a ∷ b ∷ []) seconds m is six three = absurd (omega arith)
millis_put text (a ∷ b ∷ c ∷ more) seconds m is six three = grind arith

-- the text of a line's stamp, by the text of its second
pub stamped_text : (line prefix fraction after text texts stamp : List ℕ) (seconds : ℕ) → IsSecondPrefix prefix seconds → seconds ≤ 253402300799
    → texts ≡ utc_text (record { seconds = seconds; millis = 0 }) → list_all is_ascii_digit fraction ≡ true → length fraction ≡ 6
    → line ≡ prefix ++ (fraction ++ after) → after_byte 41 after ≡ Some text
    → ((s m : ℕ) → texts ≡ utc_text (record { seconds = s; millis = 0 }) → millis_digits m ≡ three_digits fraction → stamp ≡ utc_text (record { seconds = s; millis = m }))
    → (stamp_after line ≡ Some (stamp, text)) × IsTrue (is_stamp stamp)
stamped_text line prefix fraction after text texts stamp seconds is small texts_is all six line_is closed put = grind (arith, stamped_on prefix fraction text seconds is small all six, follows 41 after text closed, utc_is_stamp)
