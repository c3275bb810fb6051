-- Fields none of which asks for a value match any data.
use Rattle.std.proofs.Common.{arith, ◌≡◌, ℕ, true, false, List, [], ◌∷◌, is_some, refl}
use Rattle.std.specs.List.{list_all, list_any}
use Rattle.std.proofs.lemmas.Bool.{or_parts}
use Rattle.n2k_table.specs.Field.{FieldParts}
use Rattle.n2k_table.specs.Table.{field_matches}

pub none_match : (payload : List ℕ) (fs : List FieldParts) → list_any (λ (f : FieldParts). is_some f.match_value) fs ≡ false → list_all (field_matches payload) fs ≡ true
none_match payload [] none = refl
none_match payload (f ∷ fs) none = grind (arith, none_match payload fs (or_parts (is_some f.match_value) (list_any (λ (f : FieldParts). is_some f.match_value) fs) none).1)
