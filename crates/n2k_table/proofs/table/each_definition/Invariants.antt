-- The definitions so far, and what reading gives for the values that are left.
use Rattle.std.proofs.Common.{◌≡◌, drop, map}
use Rattle.toml.specs.View.{view}
use Rattle.n2k_table.specs.Reading.{each}
use Rattle.n2k_table.specs.Definition.{definition}
use Rattle.n2k_table.proofs.Each.{after}
use Rattle.n2k_table.proofs.table.each_definition.Given as goal

abbrev pub invariant-loop-value : goal.invariant-loop-value
invariant-loop-value l =
    after l.definitions.items (each (definition l.format l.lookups) (map view (drop l.value-index l.values))) ≡ each (definition l.format l.lookups) (map view l.values)
