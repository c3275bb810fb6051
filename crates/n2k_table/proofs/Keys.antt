-- The keys of a TOML table, in its map and in its view.
use Rattle.std.proofs.Common.{◌≡◌, Bool, ◌&&◌, List, [], ◌∷◌, String, Global, string_bytes, refl, ap}
use Rattle.std.specs.List.{list_all}
use Rattle.std.specs.Map.{keys_of}
use Rattle.toml.specs.View.{members_view}
use Rattle.toml.specs.declared.value.Value.{Value}
use Rattle.n2k_table.specs.declared.tree.Section.{Section}
use Rattle.n2k_table.specs.Tree.{is_key, has_only_keys}

pub has_only_keys-view : (section : Section) (es : List (String Global × Value)) → has_only_keys section (members_view es) ≡ list_all (λ k. is_key section (string_bytes k)) (keys_of es)
has_only_keys-view section [] = refl
has_only_keys-view section (e ∷ es) = ap (λ (b : Bool). is_key section (string_bytes e.0) && b) (has_only_keys-view section es)
