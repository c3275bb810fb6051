-- The number of the digits that are left, after the number so far, is that of all.
use Rattle.std.proofs.Common.{◌≡◌, ◌<◌, ◌^◌, true, drop}
use Rattle.std.specs.Char.{is_ascii_digit}
use Rattle.std.specs.List.{list_all}
use Rattle.std.specs.Str.Parse.{digits_value_after}
use Rattle.n2k_table.proofs.resolution.read_on.Given as goal

abbrev pub invariant-loop-digit : goal.invariant-loop-digit
invariant-loop-digit l =
    (digits_value_after 10 l.number (drop l.digit-index l.digits) ≡ digits_value_after 10 l.before l.digits)
    × (list_all is_ascii_digit (drop l.digit-index l.digits) ≡ true)
    × (l.number < 2 ^ 32)
