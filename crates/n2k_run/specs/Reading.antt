-- How many calls of a source a reading makes, and why it may end before the source does.
use Rattle.std.specs.Prelude.{◌⊎◌, ◌≤◌, ◌+◌, ◌-◌, ◌^◌, ℕ, Bool, if◌then◌else◌, List, length, Option, Result, Ok, Err}
use Rattle.std.specs.Io.KnownBytes.{Consumes}

-- the most calls of a source that a run makes
abbrev pub most_reads : ℕ
most_reads = 1_000_000_000_000

-- a source was called as often as a run may read, or the number of calls is at its greatest
abbrev pub OutlastsReads : ℕ → ℕ → Type 0
OutlastsReads calls₀ calls = (calls₀ + most_reads ≤ calls) ⊎ (2 ^ 64 - 1 ≤ calls)

-- These bytes came of a source, each call giving at least one of them, except for so many calls that gave none.
pub record ReadsBytes (idle : ℕ) (left₀ left : Option (List ℕ)) (calls₀ calls : ℕ) : Type 0 where
  pub came : List ℕ
  pub given : Consumes left₀ left came
  pub few : calls ≤ calls₀ + length came + idle

-- the calls that give no byte: one that finds the end, or one that fails
abbrev pub idle_calls : {T E : Type 0} → Bool → Result T E → ℕ
idle_calls has_ended (Ok x) = if has_ended then 1 else 0
idle_calls has_ended (Err fault) = 1
