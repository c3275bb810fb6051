-- The date that jiff gives for a day number is the one of the definitions.
use Rattle.std.proofs.Common.{◌≡◌, ℕ, zero, suc, ◌+◌, ◌<◌, ◌≤◌, sym, ap, arith, ℤ, pos, negsuc, true, inl, inr}
use Rattle.std.proofs.lemmas.Bool.{le-leb, lt-leb, cases_lt}
use Rattle.jiff_core.specs.Calendar.{day_count, days_from_civil, IsYear, IsCivilDate}
use Rattle.jiff_core.proofs.SignedLemmas.{signed_arith}
use Rattle.jiff_core.proofs.CalendarLemmas.{day_count-epoch, day_count-lt_year, day_count-lt_month, day_count-day, day_count-day_of_year, day_count_bounds, days_from_civil-day_count}
use Rattle.n2k_wire.specs.Calendar.{day_number, is_date, last_begun_year, last_begun_month, year_of, month_of, day_of_month}

-- a year that has begun, if no later one has
pub last_begun_year-is : (n day year : ℕ) → 1970 ≤ year → year ≤ 1970 + n → day_number year 1 1 ≤ day → ((later : ℕ) → year < later → day < day_number later 1 1) → last_begun_year n day ≡ year
unfolding last_begun_year
last_begun_year-is zero day year low high begun others = omega arith
last_begun_year-is (suc n) day year low high begun others =
    elim (cases_lt year (1971 + n)) [
      | inl lt ↦ rw (lt-leb (day_number (1971 + n) 1 1) day (others (1971 + n) lt)) (last_begun_year-is n day year low (omega arith) begun others)
      | inr le ↦ let e : year ≡ 1971 + n = omega arith in let b : day_number (1971 + n) 1 1 ≤ day = rw (← e) begun in rw (le-leb (day_number (1971 + n) 1 1) day b) (omega arith)
    ]

pub last_begun_month-is : (n year day month : ℕ) → 1 ≤ month → month ≤ 1 + n → day_number year month 1 ≤ day → ((later : ℕ) → month < later → day < day_number year later 1) → last_begun_month n year day ≡ month
unfolding last_begun_month
last_begun_month-is zero year day month low high begun others = omega arith
last_begun_month-is (suc n) year day month low high begun others =
    elim (cases_lt month (2 + n)) [
      | inl lt ↦ rw (lt-leb (day_number year (2 + n) 1) day (others (2 + n) lt)) (last_begun_month-is n year day month low (omega arith) begun others)
      | inr le ↦ let e : month ≡ 2 + n = omega arith in let b : day_number year (2 + n) 1 ≤ day = rw (← e) begun in rw (le-leb (day_number year (2 + n) 1) day b) (omega arith)
    ]

-- the date of a day number
pub record IsDateOf (day : ℕ) (y : ℤ) (m d : ℕ) : Type 0 where
  pub year_is : y ≡ pos (year_of day)
  pub month_is : m ≡ month_of day
  pub day_is : d ≡ day_of_month day
  pub year_fits : year_of day ≤ 9999

-- 1 January is in the calendar
first_day : (y : ℤ) → IsYear y → IsCivilDate y 1 1
first_day y h = grind arith

-- no year from 1970 on begins before 1970 does
years_rise : (year : ℕ) → 1970 ≤ year → day_count (pos 1970) 1 1 ≤ day_count (pos year) 1 1
years_rise year late = grind (arith, day_count-lt_year)

module _ (day year m d : ℕ) (civil : IsCivilDate (pos year) m d) (count : day_count (pos year) m d ≡ day + 4_371_953) where
  from_1970 : 1970 ≤ year
  from_1970 = grind (arith, day_count-epoch, day_count-lt_year)

  to_9999 : year ≤ 9999
  to_9999 = omega (arith, signed_arith, civil.0.1)

  month_begun : day_number year m 1 ≤ day
  month_begun = omega (arith, day_count-epoch, day_count-day (pos year) m d 1 civil.2.0 (omega arith))

  months_rise : day_count (pos year) 1 1 ≤ day_count (pos year) m 1
  months_rise =
      elim (cases_lt 1 m) [
        | inl lt ↦ omega (arith, day_count-lt_month (pos year) 1 1 m 1 (first_day (pos year) civil.0) (omega arith) lt)
        | inr le ↦ let e : m ≡ 1 = omega (arith, civil.1.0) in rw e (omega arith)
      ]

  year_begun : day_number year 1 1 ≤ day
  year_begun = omega (arith, months_rise, month_begun)

  year_last : (later : ℕ) → year < later → day < day_number later 1 1
  year_last later lt = omega (arith, day_count-epoch, day_count-lt_year (pos year) m d (pos later) 1 1 civil (omega arith) (omega (arith, signed_arith)))

  month_last : (later : ℕ) → m < later → day < day_number year later 1
  month_last later lt = omega (arith, day_count-epoch, day_count-lt_month (pos year) m d later 1 civil (omega arith) lt)

  year_is : year_of day ≡ year
  year_is = last_begun_year-is 8029 day year from_1970 (omega (arith, to_9999)) year_begun year_last

  month_is : month_of day ≡ m
  month_is = rw year_is (last_begun_month-is 11 year day m civil.1.0 (omega (arith, civil.1.1)) month_begun month_last)

  day_is : day_of_month day ≡ d
  day_is = rw (month_is, year_is) (omega (arith, day_count-epoch, day_count-day (pos year) m d 1 civil.2.0 (omega arith), month_begun, months_rise, years_rise year from_1970, civil.2.0))

  pub date_of : IsDateOf day (pos year) m d
  date_of = record { year_is = ap pos (sym year_is); month_is = sym month_is; day_is = sym day_is; year_fits = rw year_is to_9999 }

-- no date before 1970 has a day number from 0 on
pub is_date_of : (day : ℕ) (y : ℤ) (m d : ℕ) → IsCivilDate y m d → days_from_civil y m d ≡ pos day → IsDateOf day y m d
is_date_of day (pos year) m d civil e =
    date_of day year m d civil (omega (arith, signed_arith, days_from_civil-day_count (pos year) m d))
is_date_of day (negsuc n) m d civil e = grind (arith, days_from_civil-day_count (negsuc n) m d, day_count-lt_year (negsuc n) m d (pos 1970) 1 1 civil (omega arith) (omega (arith, signed_arith)), day_count-epoch)

-- ---- from a date to its day number

module _ (y m d : ℕ) (late : 1970 ≤ y) (civil : IsCivilDate (pos y) m d) where
  pub from_epoch : 4_371_953 ≤ day_count (pos y) m d
  from_epoch = omega (arith, civil.2.0, years_rise y late, day_count-epoch, day_count-day_of_year (pos y) m d civil.2.0)

  pub to_last_day : day_number y m d ≤ 2_932_896
  to_last_day = omega (arith, day_count-epoch, from_epoch, day_count_bounds (pos y) m d civil)

  -- the date that has this day number is the one that it was counted from
  pub date_of_number : IsDateOf (day_number y m d) (pos y) m d
  date_of_number = date_of (day_number y m d) y m d civil (omega (arith, day_count-epoch, from_epoch))

-- the day number of a date that the calendar has
pub day_number-is : (y m d : ℕ) (year : ℤ) (month day : ℕ) → 1970 ≤ y → year ≡ pos y → month ≡ m → day ≡ d → IsCivilDate year month day
    → (days_from_civil year month day ≡ pos (day_number y m d)) × (day_number y m d ≤ 2_932_896) × (is_date y m d ≡ true)
day_number-is y m d year month day late ey em ed civil = grind (arith, from_epoch, days_from_civil-day_count, signed_arith, day_count-epoch, to_last_day)
