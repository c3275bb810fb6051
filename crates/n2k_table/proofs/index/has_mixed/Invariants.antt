-- One of the definitions left differs if one of all does.
use Rattle.std.proofs.Common.{◌≡◌, drop}
use Rattle.std.specs.List.{list_any}
use Rattle.n2k_table.specs.Inner.Index.{differs}
use Rattle.n2k_table.proofs.index.has_mixed.Given as goal

abbrev pub invariant-loop-definition : goal.invariant-loop-definition
invariant-loop-definition l =
    list_any (differs l.definitions) (drop l.definition-index l.definitions) ≡ list_any (differs l.definitions) l.definitions
