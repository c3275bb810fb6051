-- The pieces so far, and the result for the remaining values.
use Rattle.std.proofs.Common.{◌≡◌, drop, map}
use Rattle.serde_json.specs.View.{view}
use Rattle.n2k_join.specs.Resumed.{each, read_piece}
use Rattle.n2k_join.proofs.SavedLists.{after}
use Rattle.n2k_join.proofs.saved.reader.read_pieces.Given as goal

abbrev pub invariant-loop-element : goal.invariant-loop-element
invariant-loop-element l =
    after l.pieces.items (each read_piece (map view (drop l.element-index l.element-items))) ≡ each read_piece (map view l.element-items)
