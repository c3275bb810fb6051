-- The calls of a device that failed: the error of the last one, and how many failed before it.
use Rattle.std.specs.Prelude.{ℕ, Option, Some, None, Result, Ok, Err}
use Rattle.std.specs.declared.io.Error.{Error}
use Rattle.n2k_run.specs.Device.{one_more}
use Rattle.n2k_run.specs.declared.standard.Failures.{Failures}

-- how many failed, with the last one
abbrev pub count_of : Option Failures → ℕ
count_of None = 0
count_of (Some failures) = one_more failures.before

abbrev pub last_of : Option Failures → Option Error
last_of None = None
last_of (Some failures) = Some failures.last

-- the failures after a call with this result
abbrev pub noted : Result ℕ Error → Option Failures → Option Failures
noted (Ok count) failures = failures
noted (Err error) failures = Some (record { last = error; before = count_of failures })
