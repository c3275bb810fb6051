use Rattle.std.proofs.Common.{◌≡◌, drop}
use Rattle.json.specs.Value.{items_view}
use Rattle.n2k_encode.specs.Given.{are_objects}
use Rattle.n2k_encode.proofs.given.are_objects.Given as goal

abbrev pub invariant-loop-set : goal.invariant-loop-set
invariant-loop-set l = are_objects (items_view (drop l.set-index l.sets)) ≡ are_objects (items_view l.sets)
