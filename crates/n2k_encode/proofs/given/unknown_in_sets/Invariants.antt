use Rattle.std.proofs.Common.{◌≡◌, drop}
use Rattle.json.specs.Value.{items_view}
use Rattle.n2k_encode.specs.Given.{first_in_sets}
use Rattle.n2k_encode.proofs.given.unknown_in_sets.Given as goal

abbrev pub invariant-loop-set : goal.invariant-loop-set
invariant-loop-set l = first_in_sets l.fields (items_view (drop l.set-index l.sets)) ≡ first_in_sets l.fields (items_view l.sets)
