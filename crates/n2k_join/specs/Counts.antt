-- How long a log may be.
use Rattle.std.specs.Prelude.{ℕ}

-- the most lines of a log
abbrev pub most_lines : ℕ
most_lines = 999_999_999_999_999
