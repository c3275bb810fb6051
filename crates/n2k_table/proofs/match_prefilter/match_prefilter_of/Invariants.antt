-- The bits that are asked for so far are those of data that match all fields.
use Rattle.std.proofs.Common.{◌≡◌, ◌≤◌, ℕ, true, List, length, bit_and}
use Rattle.std.specs.List.{list_all}
use Rattle.n2k_table.specs.Bits.{raw}
use Rattle.n2k_table.specs.Table.{field_matches}
use Rattle.n2k_table.proofs.match_prefilter.match_prefilter_of.Given as goal

abbrev pub invariant-loop-field : goal.invariant-loop-field
invariant-loop-field l = (payload : List ℕ) → 8 ≤ length payload → list_all (field_matches payload) l.fields ≡ true
    → bit_and (raw payload 0 64) l.match_prefilter.mask ≡ l.match_prefilter.wanted
