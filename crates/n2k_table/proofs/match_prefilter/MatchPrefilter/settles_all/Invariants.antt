-- If they have what the fields that are left ask for, they have what all ask for.
use Rattle.std.proofs.Common.{◌≡◌, ◌≤◌, ℕ, List, length, bit_and}
use Rattle.std.specs.List.{list_all}
use Rattle.n2k_table.specs.Bits.{raw}
use Rattle.n2k_table.specs.Table.{field_matches}
use Rattle.n2k_table.proofs.match_prefilter.MatchPrefilter.settles_all.Given as goal

abbrev pub invariant-loop-field : goal.invariant-loop-field
invariant-loop-field l = (payload : List ℕ) → 8 ≤ length payload → bit_and (raw payload 0 64) l.self.mask ≡ l.self.wanted
    → list_all (field_matches payload) l.rest ≡ list_all (field_matches payload) l.fields

abbrev pub decreases-loop-field : goal.decreases-loop-field
decreases-loop-field l = length l.rest
