-- The entries so far and the entries left are all, and no value comes twice so far.
use Rattle.std.proofs.Common.{◌≡◌, ◌++◌, false, map, nat_eq}
use Rattle.std.specs.Vec.Iter.{into_iter_items}
use Rattle.n2k_table.specs.Duplicate.{has_duplicate}
use Rattle.n2k_table.specs.Inner.Entries.{entry_pair}
use Rattle.n2k_table.proofs.Names.{values}
use Rattle.n2k_table.proofs.lookup_reader.by_value.Given as goal

abbrev pub invariant-loop-entry : goal.invariant-loop-entry
invariant-loop-entry l =
    (goal.iterator-loop-entry).can_next l.entry-iterator ×
    (goal.iterator-loop-entry).is_finite l.entry-iterator ×
    (map entry_pair l.names.entries ++ into_iter_items l.entry-iterator ≡ l.fn.entries.items) ×
    (has_duplicate nat_eq (values (map entry_pair l.names.entries)) ≡ false)
