-- The lookups so far and the lookups left are all, each is found by its name, and no name comes twice so far.
use Rattle.std.proofs.Common.{◌≡◌, ◌++◌, false}
use Rattle.std.specs.Vec.Iter.{into_iter_items}
use Rattle.n2k_table.specs.Duplicate.{has_duplicate}
use Rattle.n2k_table.specs.Lookup.{is_same_lookup}
use Rattle.n2k_table.specs.Inner.Entries.{AreNamed}
use Rattle.n2k_table.proofs.Lookups.{lookups_in}
use Rattle.n2k_table.proofs.lookup_reader.by_name.Given as goal

abbrev pub invariant-loop-lookup : goal.invariant-loop-lookup
invariant-loop-lookup l =
    (goal.iterator-loop-lookup).can_next l.lookup-iterator ×
    (goal.iterator-loop-lookup).is_finite l.lookup-iterator ×
    (lookups_in (λ r. r.value) l.by_name.entries ++ into_iter_items l.lookup-iterator ≡ l.fn.lookups.items) ×
    (has_duplicate is_same_lookup (lookups_in (λ r. r.value) l.by_name.entries) ≡ false) ×
    AreNamed (λ r. r.value) l.by_name.entries
