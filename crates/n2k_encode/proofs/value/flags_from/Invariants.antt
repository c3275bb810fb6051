use Rattle.std.proofs.Common.{◌≡◌, drop}
use Rattle.json.specs.Value.{items_view}
use Rattle.n2k_encode.specs.Value.{flags_from}
use Rattle.n2k_encode.proofs.value.flags_from.Given as goal

-- the bits so far and those of the values that are left are those of all values
abbrev pub invariant-loop-value : goal.invariant-loop-value
invariant-loop-value l =
    flags_from l.lookup.entries l.bits l.raw (items_view (drop l.value-index l.values)) ≡ flags_from l.lookup.entries l.bits 0 (items_view l.values)
