-- What is left beside the strings of the fields to come is what is left beside all.
use Rattle.std.proofs.Common.{◌≡◌, drop}
use Rattle.n2k_table.specs.Repeat.{strings_size}
use Rattle.n2k_table.specs.Inner.Kept.{left_beside}
use Rattle.n2k_table.proofs.repeat.left_beside_strings.Given as goal

abbrev pub invariant-loop-field : goal.invariant-loop-field
invariant-loop-field l = left_beside l.left (strings_size (drop l.field-index l.fields) l.set) ≡ left_beside l.room (strings_size l.fields l.set)
