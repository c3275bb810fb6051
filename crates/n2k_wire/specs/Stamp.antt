-- Stamps of candump lines, `seconds.fraction` since 1970, and the UTC text of a stamp in a packet.
use Rattle.std.specs.Prelude.{ℕ, ◌+◌, ◌*◌, ◌/◌, ◌%◌, ◌==◌, ◌&&◌, nat_lt, nat_le, Bool, List, [], ◌∷◌, ◌++◌, length}
use Rattle.std.specs.Prelude.{slice_index, take, drop, Option, Some, codes, option_and_then}
use Rattle.n2k_wire.specs.Calendar.{day_number, is_date, year_of, month_of, day_of_month}
use Rattle.n2k_wire.specs.Digits.{decimal_number}
use Rattle.n2k_wire.specs.Cuts.{cut_at}
use Rattle.n2k_wire.specs.Steps.{some_if}

-- the last second of the year 9999
abbrev pub last_second : ℕ
last_second = 253402300799

abbrev pub seconds_of_day : ℕ
seconds_of_day = 86400

-- the most digits of the seconds, and of the fraction
abbrev pub most_second_digits : ℕ
most_second_digits = 12

abbrev pub most_fraction_digits : ℕ
most_fraction_digits = 9

-- a moment: whole seconds since 1970 in UTC, and the milliseconds after them
pub record Moment : Type 0 where
  pub seconds : ℕ
  pub millis : ℕ

-- the digits of a fraction, filled with zeros on the right and cut to three
unfoldable pub three_digits : List ℕ → List ℕ
three_digits fraction = take 3 (fraction ++ codes "000")

infixl 10 ◌>>=◌
abbrev ◌>>=◌ : {A B : Type 0} → Option A → (A → Option B) → Option B
o >>= f = option_and_then f o

-- the moment of a text `seconds.fraction`: 1 to 12 decimal digits of at most the last second, and 1 to 9
unfoldable pub moment : List ℕ → Option Moment
moment text = do
  parts ← cut_at 46 text
  seconds ← decimal_number most_second_digits parts.0
  fraction ← decimal_number most_fraction_digits parts.1
  millis ← decimal_number 3 (three_digits parts.1)
  some_if (nat_le seconds last_second) (record { seconds = seconds; millis = millis })

-- a number below 100 as two digits, one below 1,000 as three, and one below 10,000 as four
abbrev pub two_digits : ℕ → List ℕ
two_digits n = (48 + n / 10) ∷ (48 + n % 10) ∷ []

abbrev pub millis_digits : ℕ → List ℕ
millis_digits n = (48 + n / 100) ∷ two_digits (n % 100)

abbrev pub four_digits : ℕ → List ℕ
four_digits n = two_digits (n / 100) ++ two_digits (n % 100)

-- `YYYY-MM-DD` of a day number
abbrev pub date_text : ℕ → List ℕ
date_text day =
    four_digits (year_of day) ++ codes "-" ++ two_digits (month_of day) ++ codes "-" ++ two_digits (day_of_month day)

-- `HH:MM:SS` of a second of the day
abbrev pub time_text : ℕ → List ℕ
time_text second =
    two_digits (second / 3600) ++ codes ":" ++ two_digits (second / 60 % 60) ++ codes ":" ++ two_digits (second % 60)

-- `YYYY-MM-DDTHH:MM:SS.mmmZ`
unfoldable pub utc_text : Moment → List ℕ
utc_text m =
    date_text (m.seconds / seconds_of_day) ++ codes "T" ++ time_text (m.seconds % seconds_of_day)
    ++ codes "." ++ millis_digits m.millis ++ codes "Z"

-- the length of a UTC text
abbrev pub utc_len : ℕ
utc_len = 24

-- whether the bytes between the digits are in their places
abbrev pub has_utc_form : List ℕ → Bool
has_utc_form text =
    (length text == utc_len) && (slice_index text 4 == 45) && (slice_index text 7 == 45)
    && (slice_index text 10 == 84) && (slice_index text 13 == 58) && (slice_index text 16 == 58)
    && (slice_index text 19 == 46) && (slice_index text 23 == 90)

-- the number of so many decimal digits from a place on
abbrev pub number_at : ℕ → ℕ → List ℕ → Option ℕ
number_at place digits text = decimal_number digits (take digits (drop place text))

-- the day number of `YYYY-MM-DD` at the start of a text, if the calendar has that day
unfoldable pub day_at_start : List ℕ → Option ℕ
day_at_start text = do
  year ← number_at 0 4 text
  month ← number_at 5 2 text
  day ← number_at 8 2 text
  some_if (is_date year month day) (day_number year month day)

-- the second of the day of `HH:MM:SS` after `YYYY-MM-DDT`
unfoldable pub second_after_date : List ℕ → Option ℕ
second_after_date text = do
  hour ← number_at 11 2 text
  minute ← number_at 14 2 text
  second ← number_at 17 2 text
  some_if (nat_lt hour 24 && nat_lt minute 60 && nat_lt second 60) (hour * 3600 + minute * 60 + second)

-- the moment of a text `YYYY-MM-DDTHH:MM:SS.mmmZ` of a day that the calendar has from 1970 on
unfoldable pub utc_moment : List ℕ → Option Moment
utc_moment text = do
  form ← some_if (has_utc_form text) text
  day ← day_at_start text
  second ← second_after_date text
  millis ← number_at 20 3 text
  Some (record { seconds = day * seconds_of_day + second; millis = millis })
