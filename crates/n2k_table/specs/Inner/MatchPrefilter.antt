-- What a definition asks of the first eight bytes of the data, as one comparison.
use Rattle.std.specs.Prelude.{◌≡◌, ◌≤◌, ℕ, true, List, length, bit_and}
use Rattle.std.specs.List.{list_all}
use Rattle.n2k_table.specs.declared.match_prefilter.MatchPrefilter.{MatchPrefilter}
use Rattle.n2k_table.specs.Bits.{raw}
use Rattle.n2k_table.specs.Field.{FieldParts}
use Rattle.n2k_table.specs.Table.{field_matches}

-- data of eight bytes and more that have the wanted bits under the mask have what the fields ask for
abbrev pub Settles : ℕ → ℕ → List FieldParts → Type 0
Settles mask wanted fields =
    (payload : List ℕ) → 8 ≤ length payload → bit_and (raw payload 0 64) mask ≡ wanted
    → list_all (field_matches payload) fields ≡ true

-- Data of eight bytes and more that have what the fields ask for have the wanted bits under the mask. If the prefilter
-- settles a match, data that have these bits have what the fields ask for.
pub record IsMatchPrefilter (match_prefilter : MatchPrefilter) (fields : List FieldParts) : Type 0 where
  pub asked : (payload : List ℕ) → 8 ≤ length payload → list_all (field_matches payload) fields ≡ true
      → bit_and (raw payload 0 64) match_prefilter.mask ≡ match_prefilter.wanted
  pub settled : match_prefilter.settles ≡ true → Settles match_prefilter.mask match_prefilter.wanted fields
