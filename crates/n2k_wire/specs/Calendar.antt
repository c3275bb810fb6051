-- The Gregorian calendar from 1970 to 9999, by day numbers: 0 is 1 January 1970. jiff's calendar gives the lengths of
-- years and months; `day_count` adds them up.
use Rattle.std.specs.Prelude.{ℕ, zero, suc, ◌+◌, ◌-◌, ◌&&◌, nat_le, Bool, if◌then◌else◌, pos}
use Rattle.jiff_core.specs.Calendar.{day_count, days_in_month}

-- the day number of a date
abbrev pub day_number : ℕ → ℕ → ℕ → ℕ
day_number year month day = day_count (pos year) month day - day_count (pos 1970) 1 1

-- whether the calendar has this day, from 1970 on
abbrev pub is_date : ℕ → ℕ → ℕ → Bool
is_date year month day =
    nat_le 1970 year && nat_le 1 month && nat_le month 12 && nat_le 1 day && nat_le day (days_in_month (pos year) month)

-- the last of the n years after 1970 that has begun by the day, or 1970
unfoldable pub last_begun_year : ℕ → ℕ → ℕ
last_begun_year zero day = 1970
last_begun_year (suc n) day =
    if nat_le (day_number (1971 + n) 1 1) day then 1971 + n else last_begun_year n day

-- the last of the n months after the year's first that has begun by the day, or the first
unfoldable pub last_begun_month : ℕ → ℕ → ℕ → ℕ
last_begun_month zero year day = 1
last_begun_month (suc n) year day =
    if nat_le (day_number year (2 + n) 1) day then 2 + n else last_begun_month n year day

-- the year, the month and the day of the month that have this day number, up to 9999-12-31
abbrev pub year_of : ℕ → ℕ
year_of day = last_begun_year 8029 day

abbrev pub month_of : ℕ → ℕ
month_of day = last_begun_month 11 (year_of day) day

abbrev pub day_of_month : ℕ → ℕ
day_of_month day = day - day_number (year_of day) (month_of day) 1 + 1
