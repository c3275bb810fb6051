-- A moment's text is a stamp.
use Rattle.std.proofs.Common.{◌≡◌, ℕ, zero, suc, ◌+◌, ◌/◌, ◌%◌, ◌<◌, ◌≤◌, true, ◌&&◌, List, [], ◌∷◌, ◌++◌, length, Some, refl, ◌∙◌, arith, leb, pos, inl, inr, not, IsTrue, ◌==◌}
use Rattle.std.specs.List.{list_all}
use Rattle.std.proofs.lemmas.Bool.{and_from, cases_Bool, leb-false}
use Rattle.std.proofs.lemmas.List.Folds.{list_all-append}
use Rattle.jiff_core.proofs.SignedLemmas.{signed_arith}
use Rattle.jiff_core.proofs.CalendarLemmas.{day_count-epoch, day_count-end, day_count-next_year, day_count-next_month, day_count-last_of_year, day_count-day}
use Rattle.n2k_wire.specs.Calendar.{day_number, last_begun_year, last_begun_month, year_of, month_of, day_of_month}
use Rattle.n2k_wire.specs.Digits.{decimal_after, decimal_number}
use Rattle.n2k_wire.specs.Packet.{is_stamp, is_stamp_byte}
use Rattle.n2k_wire.specs.Stamp.{Moment, two_digits, four_digits, millis_digits, date_text, time_text, utc_text, moment}
use Rattle.n2k_wire.specs.Inner.Stamp.{IsMoment}
use Rattle.n2k_wire.proofs.UtcBack.{after_cons, after_nil, number_parts}

-- ---- the date of a day has digits enough

-- if the year after the last has not begun by the day, neither has the year after the last that has begun
year_ends : (n day : ℕ) → day < day_number (1971 + n) 1 1 → (last_begun_year n day ≤ 1970 + n) × (day < day_number (1 + last_begun_year n day) 1 1)
unfolding last_begun_year
year_ends zero day before = (omega arith, before)
year_ends (suc n) day before =
    elim (cases_Bool (leb (day_number (1971 + n) 1 1) day)) [
      | inl begun ↦
          let next : 1971 + suc n ≡ 1 + (1971 + n) = omega arith in
          rw begun (omega arith, rw next at before)
      | inr other ↦
          let ends = year_ends n day (leb-false (day_number (1971 + n) 1 1) day other) in
          rw other (omega (arith, ends.0), ends.1)
    ]

month_ends : (n year day : ℕ) → day < day_number year (2 + n) 1 → (1 ≤ last_begun_month n year day) × (last_begun_month n year day ≤ 1 + n) × (day < day_number year (last_begun_month n year day + 1) 1)
unfolding last_begun_month
month_ends zero year day before = (omega arith, omega arith, before)
month_ends (suc n) year day before =
    elim (cases_Bool (leb (day_number year (2 + n) 1) day)) [
      | inl begun ↦
          let next : 2 + suc n ≡ 2 + n + 1 = omega arith in
          rw begun (omega arith, omega arith, rw next at before)
      | inr other ↦
          let ends = month_ends n year day (leb-false (day_number year (2 + n) 1) day other) in
          rw other (ends.0, omega (arith, ends.1), ends.2)
    ]

-- a year's end is the end of its twelfth month
year_end : (year : ℕ) → day_number (1 + year) 1 1 ≡ day_number year 13 1
year_end year = grind (arith, day_count-next_year (pos year) (pos (1 + year)) (omega (arith, signed_arith)) (omega (arith, signed_arith)), day_count-next_month (pos year) 12 (omega arith), day_count-last_of_year (pos year), day_count-day (pos year) 12 31 1 (omega arith) (omega arith))

module _ (day : ℕ) (fits : day ≤ 2_932_896) where
  year_last : (year_of day ≤ 9999) × (day < day_number (1 + year_of day) 1 1)
  year_last = year_ends 8029 day (omega (arith, day_count-end, day_count-epoch))

  month_last : (1 ≤ month_of day) × (month_of day ≤ 12) × (day < day_number (year_of day) (month_of day + 1) 1)
  month_last = month_ends 11 (year_of day) day (rw (← year_end (year_of day)) year_last.1)

  day_small : day_of_month day ≤ 31
  day_small = grind (arith, month_last, day_count-next_month)

-- ---- its text

digit_fits : (d : ℕ) → d < 10 → is_stamp_byte (48 + d) ≡ true
digit_fits d small = grind arith

-- bytes that a stamp may hold
abbrev Fit : List ℕ → Type 0
Fit text = list_all is_stamp_byte text ≡ true

both : (xs ys : List ℕ) → Fit xs → Fit ys → Fit (xs ++ ys)
both xs ys a b = list_all-append is_stamp_byte xs ys ∙ and_from (list_all is_stamp_byte xs) (list_all is_stamp_byte ys) a b

two_fit : (n : ℕ) → n < 100 → Fit (two_digits n)
two_fit n small = grind arith

four_fit : (n : ℕ) → n < 10000 → Fit (four_digits n)
four_fit n small = both (two_digits (n / 100)) (two_digits (n % 100)) (two_fit (n / 100) (omega arith)) (two_fit (n % 100) (omega arith))

millis_fit : (n : ℕ) → n ≤ 999 → Fit (millis_digits n)
millis_fit n small = both ((48 + n / 100) ∷ []) (two_digits (n % 100)) (rw (digit_fits (n / 100) (omega arith)) refl) (two_fit (n % 100) (omega arith))

date_fits : (day : ℕ) → day ≤ 2_932_896 → Fit (date_text day)
date_fits day fits = grind (arith, four_fit (year_of day) (omega (arith, (year_last day fits).0)), two_fit (month_of day) (omega (arith, (month_last day fits).1)), two_fit (day_of_month day) (omega (arith, day_small day fits)))

time_fits : (second : ℕ) → second < 86_400 → Fit (time_text second)
time_fits second fits = grind (arith, two_fit)

-- a digit begins it
starts : (d : ℕ) → (not (48 + d == 40) && not (48 + d == 35)) ≡ true
starts d = grind arith

pub utc_is_stamp : (seen : Moment) → IsMoment seen → IsTrue (is_stamp (utc_text seen))
unfolding utc_text
utc_is_stamp seen is = grind (arith, date_fits, time_fits, millis_fit, starts)

-- ---- a moment that is read is valid

three_small : (n : ℕ) (text : List ℕ) → length text ≤ 3 → decimal_after 0 text ≡ Some n → n ≤ 999
three_small n [] few e = omega (arith, after_nil 0 n e)
three_small n (a ∷ []) few e = grind (arith, after_cons, after_nil)
three_small n (a ∷ b ∷ []) few e = grind (arith, after_cons, after_nil)
three_small n (a ∷ b ∷ c ∷ []) few e = grind (arith, after_cons, after_nil)
three_small n (a ∷ b ∷ c ∷ d ∷ more) few e = absurd (omega arith)

millis_small : (n : ℕ) (text : List ℕ) → decimal_number 3 text ≡ Some n → n ≤ 999
millis_small n text e = let read = number_parts 3 n text e in three_small n text read.0 read.1

pub moment_is_one : (text : List ℕ) (seen : Moment) → moment text ≡ Some seen → IsMoment seen
unfolding moment
moment_is_one text seen e = grind (arith, millis_small)
