-- The second that packets in a row share: their stamps begin so, and their candump lines too.
use Rattle.std.proofs.Common.{◌≡◌, ℕ, zero, suc, ◌+◌, ◌≤◌, ◌<◌, true, false, List, [], ◌∷◌, ◌++◌, length, take, drop, ◌*◌, Some, None, refl, sym, ap, subst, ◌∙◌, arith, codes, slice_index, ◌==◌, length-append, length-take-le}
use Rattle.std.specs.Char.{is_ascii_digit}
use Rattle.std.specs.List.{list_all}
use Rattle.std.proofs.lemmas.Bool.{and_parts, ne_eqb}
use Rattle.std.proofs.Math.Seq.{drop-append_seam}
use Rattle.n2k_wire.specs.Digits.{decimal_digit, decimal_after, decimal_number}
use Rattle.n2k_wire.specs.Inner.Stamp.{IsSecond, IsStampText, are_millis, second_prefix}
use Rattle.n2k_wire.specs.Stamp.{Moment, day_at_start, has_utc_form, millis_digits, number_at, second_after_date, utc_moment}
use Rattle.n2k_wire.specs.Steps.{some_if}
use Rattle.n2k_wire.specs.Texts.{second_digits}
use Rattle.n2k_wire.proofs.CandumpBack.{length-seconds}
use Rattle.n2k_wire.proofs.SecondCaches.{number_read}
use Rattle.n2k_wire.proofs.UtcBack.{if_some, moment_is, number_parts, three_back, with_some}

part_same : (place digits : ℕ) (s b c : List ℕ) → place + digits ≤ length s → take digits (drop place (s ++ b)) ≡ take digits (drop place (s ++ c))
part_same zero zero s b c within = refl
part_same zero (suc digits) [] b c within = absurd (omega (arith, within))
part_same zero (suc digits) (x ∷ s) b c within = ap (λ (t : List ℕ). x ∷ t) (part_same zero digits s b c (omega (arith, within)))
part_same (suc place) digits [] b c within = absurd (omega (arith, within))
part_same (suc place) digits (x ∷ s) b c within = part_same place digits s b c (omega (arith, within))

byte_same : (place : ℕ) (s b c : List ℕ) → place < length s → slice_index (s ++ b) place ≡ slice_index (s ++ c) place
byte_same place [] b c within = absurd (omega (arith, within))
byte_same zero (x ∷ s) b c within = refl
byte_same (suc place) (x ∷ s) b c within = byte_same place s b c (omega (arith, within))

byte_after : (s b : List ℕ) (k : ℕ) → slice_index (s ++ b) (length s + k) ≡ slice_index b k
byte_after [] b k = let same : length {A = ℕ} [] + k ≡ k = omega arith in ap (slice_index b) same
byte_after (x ∷ s) b k = let next : length (x ∷ s) + k ≡ suc (length s + k) = omega arith in ap (slice_index (x ∷ (s ++ b))) next ∙ byte_after s b k

-- two stamps that begin with the same 20 bytes
module _ (stamp : List ℕ) (long : length stamp ≡ 20) (after other : List ℕ) (four : length after ≡ 4) (four_too : length other ≡ 4) where
  number_same : (place digits : ℕ) → place + digits ≤ 20 → number_at place digits (stamp ++ other) ≡ number_at place digits (stamp ++ after)
  number_same place digits within = ap (decimal_number digits) (part_same place digits stamp other after (omega (arith, long, within)))

  day_same : day_at_start (stamp ++ other) ≡ day_at_start (stamp ++ after)
  unfolding day_at_start
  day_same = rw (number_same 0 4 (omega arith), number_same 5 2 (omega arith), number_same 8 2 (omega arith)) refl

  second_same : second_after_date (stamp ++ other) ≡ second_after_date (stamp ++ after)
  unfolding second_after_date
  second_same = rw (number_same 11 2 (omega arith), number_same 14 2 (omega arith), number_same 17 2 (omega arith)) refl

  at : (place mark : ℕ) → place < 20 → (slice_index (stamp ++ after) place == mark) ≡ true → (slice_index (stamp ++ other) place == mark) ≡ true
  at place mark within is = ap (λ b. b == mark) (byte_same place stamp other after (omega (arith, long, within))) ∙ is

  form_same : has_utc_form (stamp ++ after) ≡ true → (slice_index other 3 == 90) ≡ true → has_utc_form (stamp ++ other) ≡ true
  form_same form end = grind (arith, length-append, byte_after, at)

  millis_at : (digits : List ℕ) → digits ≡ take 3 other → number_at 20 3 (stamp ++ other) ≡ decimal_number 3 digits
  millis_at digits is = ap (decimal_number 3) (ap (λ k. take 3 (drop k (stamp ++ other))) (sym long) ∙ ap (take 3) (drop-append_seam stamp other) ∙ sym is)

  found : (day second : ℕ) → has_utc_form (stamp ++ after) ≡ true → day_at_start (stamp ++ after) ≡ Some day → second_after_date (stamp ++ after) ≡ Some second
      → are_millis other ≡ true → IsStampText (utc_moment (stamp ++ other)) (second_prefix (day * 86400 + second) ++ take 3 other)
  unfolding utc_moment
  found day second form on at_second ends =
      let parts = and_parts (list_all is_ascii_digit (take 3 other)) (slice_index other 3 == 90) ends in
      let three : length (take 3 other) ≡ 3 = length-take-le 3 other (omega (arith, four_too)) in
      let number = number_read 3 (take 3 other) parts.0 (omega (arith, three)) (omega (arith, three)) in
      let form_is = form_same form parts.1 in
      let day_is = day_same ∙ on in
      let second_is = second_same ∙ at_second in
      let millis_is = millis_at (take 3 other) refl ∙ number.1 in
      (record { seconds = day * 86400 + second; millis = number.0 }, rw (form_is, day_is, second_is, millis_is) refl, ap (λ (t : List ℕ). second_prefix (day * 86400 + second) ++ t) (sym (three_back number.0 (take 3 other) three number.2).0))

-- if one stamp has a moment, each stamp with the same first 20 bytes is of its second
shared : (stamp after : List ℕ) (seen : Moment) → length stamp ≡ 20 → length after ≡ 4 → utc_moment (stamp ++ after) ≡ Some seen
    → (other : List ℕ) → length other ≡ 4 → are_millis other ≡ true → IsStampText (utc_moment (stamp ++ other)) (second_prefix seen.seconds ++ take 3 other)
unfolding utc_moment
shared stamp after seen long four e other four_too ends =
    with_some (some_if (has_utc_form (stamp ++ after)) (stamp ++ after)) _ seen e (λ f ef e1.
    with_some (day_at_start (stamp ++ after)) _ seen e1 (λ day ed e2.
    with_some (second_after_date (stamp ++ after)) _ seen e2 (λ second es e3.
    with_some (number_at 20 3 (stamp ++ after)) _ seen e3 (λ millis em e4.
    let is : day * 86400 + second ≡ seen.seconds = (moment_is seen (day * 86400 + second) millis e4).0 in
    subst (λ n. IsStampText (utc_moment (stamp ++ other)) (second_prefix n ++ take 3 other)) is (found stamp long after other four four_too day second (if_some (has_utc_form (stamp ++ after)) (stamp ++ after) f ef).0 ed es ends)))))

-- a stamp's milliseconds are its last digits
own_millis : (stamp after : List ℕ) (seen : Moment) → length stamp ≡ 20 → length after ≡ 4 → utc_moment (stamp ++ after) ≡ Some seen → millis_digits seen.millis ≡ take 3 after
unfolding utc_moment
own_millis stamp after seen long four e = grind (arith, number_parts, millis_at, three_back)

-- the start of a line has at most fourteen bytes
pub prefix_short : (n : ℕ) → n ≤ 253402300799 → length (second_prefix n) ≤ 14
prefix_short n few = omega (arith, length-append (second_digits n) (codes "."), (length-seconds n few).1)

pub turned : (text stamp after : List ℕ) (seen : Moment) → text ≡ stamp ++ after → length stamp ≡ 20 → length after ≡ 4 → utc_moment text ≡ Some seen → seen.seconds ≤ 253402300799
    → IsSecond stamp (second_prefix seen.seconds) × IsStampText (utc_moment text) (second_prefix seen.seconds ++ take 3 after)
turned text stamp after seen is long four e few = grind (arith, shared, prefix_short, own_millis)

-- the first second that a candump line can name
first_moment : utc_moment (codes "1970-01-01T00:00:00.000Z") ≡ Some (record { seconds = 0; millis = 0 })
unfolding utc_moment day_at_start second_after_date decimal_number decimal_after decimal_digit
first_moment = grind arith

pub first_second : IsSecond (codes "1970-01-01T00:00:00.") (second_prefix 0)
first_second = record {
  shared = shared (codes "1970-01-01T00:00:00.") (codes "000Z") (record { seconds = 0; millis = 0 }) refl refl first_moment;
  short = prefix_short 0 (omega arith);
}

-- a stamp of another length names none
pub no_moment : (text : List ℕ) → (length text ≡ 24 → ⊥) → utc_moment text ≡ None
unfolding utc_moment
no_moment text other = let test : (length text == 24) ≡ false = ne_eqb (length text) 24 other in rw test refl

-- a stamp of the kept second
pub of_second : (text stamp after line kept : List ℕ) → text ≡ stamp ++ after → length after ≡ 4 → IsSecond kept line → stamp ≡ kept → are_millis after ≡ true → IsStampText (utc_moment text) (line ++ take 3 after)
of_second text stamp after line kept is four second same ends = rw (is, same) (second.shared after four ends)
