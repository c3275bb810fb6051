-- Failed calls of a device: each is counted, and the count shows whether the device failed.
use Rattle.std.specs.Prelude.{◌≡◌, ◌⊎◌, ◌==◌, ◌<◌, ◌+◌, ◌-◌, ◌^◌, ℕ, if◌then◌else◌, IsSome, None, Option, Result}
use Rattle.std.specs.Prelude.{MatchResult}

-- one more failed call; at 2^64 - 1 the number stays
abbrev pub one_more : ℕ → ℕ
one_more failed = if failed == 2 ^ 64 - 1 then failed else failed + 1

-- a failed call, and only a failed call, is counted
abbrev pub CountsFailure : {T E : Type 0} → ℕ → ℕ → Result T E → Type 0
CountsFailure old new result = MatchResult result (λ _. new ≡ old) (λ _. new ≡ one_more old)

-- a device failed in a call: the number of its failed calls rose or is at 2^64 - 1
abbrev pub HasFailed : ℕ → ℕ → Type 0
HasFailed old new = (old < new) ⊎ (old ≡ 2 ^ 64 - 1)

-- the error of the last of so many failed calls, and none if no call failed
abbrev pub IsWhy : {E : Type 0} → ℕ → Option E → Type 0
IsWhy failed why = (failed ≡ 0 → why ≡ None) × (0 < failed → IsSome why)
