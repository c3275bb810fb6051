-- Two are the same among the fields left if two are among all.
use Rattle.std.proofs.Common.{◌≡◌, length}
use Rattle.n2k_table.specs.Duplicate.{has_duplicate}
use Rattle.n2k_table.specs.Fields.{is_same_field}
use Rattle.n2k_table.proofs.fields_reader.has_duplicate.Given as goal

abbrev pub invariant-loop-field : goal.invariant-loop-field
invariant-loop-field l = has_duplicate is_same_field l.rest ≡ has_duplicate is_same_field l.fields

abbrev pub decreases-loop-field : goal.decreases-loop-field
decreases-loop-field l = length l.rest
