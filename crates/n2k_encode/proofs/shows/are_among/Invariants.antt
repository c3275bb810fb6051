use Rattle.std.proofs.Common.{◌≡◌, length}
use Rattle.json.specs.Value.{items_view}
use Rattle.n2k_table.specs.Shown.{flags_left}
use Rattle.n2k_encode.specs.Says.{are_among, count_items}
use Rattle.n2k_encode.proofs.shows.are_among.Given as goal

abbrev pub invariant-loop-flag : goal.invariant-loop-flag
invariant-loop-flag l = are_among (flags_left l.flags) l.left (items_view l.values) ≡ are_among (flags_left l.fn.flags) (count_items (items_view l.values)) (items_view l.values)

abbrev pub decreases-loop-flag : goal.decreases-loop-flag
decreases-loop-flag l = length (flags_left l.flags)
