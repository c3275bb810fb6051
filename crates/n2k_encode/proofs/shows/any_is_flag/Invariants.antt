use Rattle.std.proofs.Common.{◌≡◌, drop}
use Rattle.json.specs.Value.{items_view}
use Rattle.n2k_table.specs.Shown.{flag_parts}
use Rattle.n2k_encode.specs.Says.{any_item, is_flag}
use Rattle.n2k_encode.proofs.shows.any_is_flag.Given as goal

abbrev pub invariant-loop-value : goal.invariant-loop-value
invariant-loop-value l = any_item (is_flag (flag_parts l.flag)) (items_view (drop l.value-index l.values)) ≡ any_item (is_flag (flag_parts l.flag)) (items_view l.values)
