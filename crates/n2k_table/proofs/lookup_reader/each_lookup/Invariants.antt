-- The lookups so far, and what reading gives for the values that are left.
use Rattle.std.proofs.Common.{◌≡◌, drop, map}
use Rattle.toml.specs.View.{view}
use Rattle.n2k_table.specs.Reading.{each}
use Rattle.n2k_table.specs.Lookup.{lookup}
use Rattle.n2k_table.proofs.Each.{after}
use Rattle.n2k_table.proofs.lookup_reader.each_lookup.Given as goal

abbrev pub invariant-loop-value : goal.invariant-loop-value
invariant-loop-value l =
    after l.lookups.items (each lookup (map view (drop l.value-index l.values))) ≡ each lookup (map view l.values)
