-- A stamp with its separators in the places where `candump` puts them.
use Rattle.std.proofs.Common.{arith, ◌≡◌, ℕ, ◌≤◌, true, leb, not, List, [], ◌∷◌, ◌++◌, Some, refl, ap, ◌∙◌, ◌==◌}
use Rattle.std.specs.Char.{is_ascii_digit}
use Rattle.std.specs.List.{list_all}
use Rattle.std.proofs.lemmas.Bool.{le-leb}
use Rattle.std.proofs.lemmas.List.Folds.{list_all-append}
use Rattle.n2k_wire.specs.Candump.{stamped}
use Rattle.n2k_wire.specs.Digits.{decimal_number}
use Rattle.n2k_wire.specs.Cuts.{cut_at, after_byte}
use Rattle.n2k_wire.specs.Inner.Candump.{stamp_after}
use Rattle.n2k_wire.specs.Stamp.{moment, three_digits, utc_text}
use Rattle.n2k_wire.proofs.CandumpBack.{cut_after, digits_alone, is_other, none_of}
use Rattle.n2k_wire.proofs.UtcBack.{number_parts}

pub number_digits : (most n : ℕ) (text : List ℕ) → decimal_number most text ≡ Some n → list_all is_ascii_digit text ≡ true
number_digits most n text e = digits_alone 0 n text (number_parts most n text e).1

pub follows : (byte : ℕ) (text rest : List ℕ) → after_byte byte text ≡ Some rest → text ≡ byte ∷ rest
unfolding after_byte
follows byte [] rest e = absurd cc
follows byte (b ∷ text) rest e = grind arith

-- the separators are in these places, and not before
pub usual : (line inner stamp after text seconds point fraction : List ℕ) (s f m : ℕ)
    → after_byte 40 line ≡ Some inner → inner ≡ stamp ++ after → after_byte 41 after ≡ Some text
    → stamp ≡ seconds ++ point → after_byte 46 point ≡ Some fraction
    → decimal_number 12 seconds ≡ Some s → decimal_number 9 fraction ≡ Some f → decimal_number 3 (three_digits fraction) ≡ Some m → s ≤ 253402300799
    → stamp_after line ≡ Some (utc_text (record { seconds = s; millis = m }), text)
unfolding stamp_after stamped moment
usual line inner stamp after text seconds point fraction s f m opened inner_is closed stamp_is pointed whole part third small =
    let ds = number_digits 12 s seconds whole in
    let fs = number_digits 9 f fraction part in
    let stamp_at : stamp ≡ seconds ++ (46 ∷ fraction) = stamp_is ∙ ap (λ (t : List ℕ). seconds ++ t) (follows 46 point fraction pointed) in
    let inner_at : inner ≡ stamp ++ (41 ∷ text) = inner_is ∙ ap (λ (t : List ℕ). stamp ++ t) (follows 41 after text closed) in
    let none_dot = none_of is_ascii_digit (λ b. b == 46) (is_other is_ascii_digit 46 refl) seconds ds in
    let prefix = none_of is_ascii_digit (λ b. b == 41) (is_other is_ascii_digit 41 refl) seconds ds in
    let back = none_of is_ascii_digit (λ b. b == 41) (is_other is_ascii_digit 41 refl) fraction fs in
    let none_end : list_all (λ b. not (b == 41)) stamp ≡ true = rw stamp_at (list_all-append (λ b. not (b == 41)) seconds (46 ∷ fraction) ∙ rw (prefix, back) refl) in
    let outer : cut_at 41 inner ≡ Some (stamp, text) = ap (cut_at 41) inner_at ∙ cut_after 41 stamp text none_end in
    let parts : cut_at 46 stamp ≡ Some (seconds, fraction) = ap (cut_at 46) stamp_at ∙ cut_after 46 seconds fraction none_dot in
    let last : leb s 253402300799 ≡ true = le-leb _ _ small in
    rw (opened, outer, parts, whole, part, third, last) refl
