-- Moments and seconds, and how the lines and stamps of a second begin, as the code keeps them.
use Rattle.std.specs.Prelude.{◌≡◌, ◌≤◌, ℕ, ◌==◌, ◌&&◌, Bool, true, List, ◌++◌, length, slice_index, take, Option}
use Rattle.std.specs.Prelude.{Some, codes}
use Rattle.std.specs.Char.{is_ascii_digit}
use Rattle.std.specs.List.{list_all}
use Rattle.n2k_wire.specs.declared.stamp.Moment as moments_of_code
use Rattle.n2k_wire.specs.Stamp.{Moment, last_second, millis_digits, utc_moment}
use Rattle.n2k_wire.specs.Texts.{second_digits}

-- the day number of 31 December 9999
abbrev pub last_day : ℕ
last_day = 2932896

-- a moment that a stamp can name
pub record IsMoment (m : Moment) : Type 0 where
  pub seconds_fit : m.seconds ≤ last_second
  pub millis_fit : m.millis ≤ 999

-- a moment of the code
abbrev pub plain_moment : moments_of_code.Moment → Moment
plain_moment m = record { seconds = m.seconds; millis = m.millis }

-- how the candump lines of a second begin
abbrev pub second_prefix : ℕ → List ℕ
second_prefix seconds = codes "(" ++ second_digits seconds ++ codes "."

-- the text of a candump line between the milliseconds and the identifier
abbrev pub after_millis : List ℕ → List ℕ
after_millis interface = codes "000) " ++ interface ++ codes " "

-- whether the last four bytes of a stamp are its milliseconds and `Z`
abbrev pub are_millis : List ℕ → Bool
are_millis after = list_all is_ascii_digit (take 3 after) && (slice_index after 3 == 90)

-- a text is how the candump line of a moment that was found begins, up to its milliseconds
abbrev pub IsStampText : Option Moment → List ℕ → Type 0
IsStampText found text =
    (seen : Moment) × (found ≡ Some seen) × (text ≡ second_prefix seen.seconds ++ millis_digits seen.millis)

-- All stamps that begin with `stamp` are of one second, whose candump lines begin with `line`.
pub record IsSecond (stamp line : List ℕ) : Type 0 where
  pub shared : (after : List ℕ) → length after ≡ 4 → are_millis after ≡ true
      → IsStampText (utc_moment (stamp ++ after)) (line ++ take 3 after)
  pub short : length line ≤ 14
