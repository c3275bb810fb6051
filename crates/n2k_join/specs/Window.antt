-- What ends an incomplete group: its window of lines, and the order of its frames' numbers.
use Rattle.std.specs.Prelude.{◌≤◌, ℕ, Bool}

-- the fewest lines of a window, and the most
abbrev pub shortest_window : ℕ
shortest_window = 32

abbrev pub longest_window : ℕ
longest_window = 1_000_000

-- What ends an incomplete group, besides a repeated number: so many lines, counted from its first frame's; and, in
-- order, a frame whose number is not greater than each number in it.
pub record Window : Type 0 where
  pub lines : ℕ
  pub in_order : Bool

-- a number of lines that a window can have
pub record IsWindow (lines : ℕ) : Type 0 where
  pub least : shortest_window ≤ lines
  pub most : lines ≤ longest_window
