-- The lookups of a table by their names, as the code's map has them.
use Rattle.std.proofs.Common.{arith, ◌≡◌, ℕ, true, false, List, [], ◌∷◌, ◌++◌, String, Global, string_bytes, map, Option, None, is_some, option_map, Err, refl, sym, ap, ◌∙◌, append_assoc, subst, Bor, option_copied}
use Rattle.std.specs.Cmp.Lexicographic.{nat_list_eq_equiv}
use Rattle.std.specs.Str.{bytes_eq}
use Rattle.std.specs.String.{string_eq}
use Rattle.std.specs.Map.{lookup as value_at}
use Rattle.std.specs.List.{list_any, find}
use Rattle.std.proofs.lemmas.List.{map-append}
use Rattle.indexmap.specs.IndexMap.{IndexMap, insert_entry}
use Rattle.indexmap.proofs.CallerLemmas.{insert_entry-new}
use Rattle.n2k_table.specs.declared.fault.TableFault.TheVariants.{Twice}
use Rattle.n2k_table.specs.Duplicate.{has_duplicate}
use Rattle.n2k_table.specs.Lookup.{LookupParts, is_same_lookup}
use Rattle.n2k_table.specs.Inner.Entries.{AreNamed, apart}
use Rattle.n2k_table.proofs.Names.{twice_here, once_more}

-- the lookups of a map, given how a lookup is seen
abbrev pub lookups_in : {R : Type 0} → (R → LookupParts) → List (String Global × R) → List LookupParts
lookups_in value entries = map (λ e. value e.1) entries

module _ {R : Type 0} (value : R → LookupParts) where
  -- what a reference leads to
  copied : (r : Option (Bor R)) → option_map (λ x. value x.now) r ≡ option_map value (option_copied r)
  copied r = grind arith

  -- a lookup by its name is the first of the name
  find-named : (q : List ℕ) (es : List (String Global × R)) → AreNamed value es
      → option_map value (value_at (λ k. bytes_eq q (string_bytes k)) es) ≡ find (λ l. bytes_eq q l.name) (lookups_in value es)
  find-named q [] named = refl
  find-named q (e ∷ es) named = grind (arith, find-named q es named.1)

  -- the same of what the map returns
  pub found-named : (r : Option (Bor R)) (q : List ℕ) (es : List (String Global × R)) → option_copied r ≡ value_at (λ k. bytes_eq q (string_bytes k)) es → AreNamed value es
      → option_map (λ x. value x.now) r ≡ find (λ l. bytes_eq q l.name) (lookups_in value es)
  found-named r q es is named = copied r ∙ ap (option_map value) is ∙ find-named q es named

  -- a name has a lookup if it is among the names
  pub is_some-named : (l : LookupParts) (name : String Global) (es : List (String Global × R)) → AreNamed value es → string_bytes name ≡ l.name
      → is_some (value_at (string_eq name) es) ≡ list_any (is_same_lookup l) (lookups_in value es)
  is_some-named l name [] named is = refl
  is_some-named l name (e ∷ es) named is = grind (arith, is_some-named l name es named.1 is)

same_turned : (a b : LookupParts) → is_same_lookup a b ≡ is_same_lookup b a
same_turned a b = nat_list_eq_equiv.symm a.name b.name

-- a lookup whose name another has
pub twice_lookup : {R : Type 0} (value : R → LookupParts) (l : LookupParts) (name : String Global) (es : List (String Global × R)) (rest left all : List LookupParts)
    → AreNamed value es → string_bytes name ≡ l.name → left ≡ l ∷ rest → lookups_in value es ++ left ≡ all → is_some (value_at (string_eq name) es) ≡ true
    → apart all ≡ Err Twice
twice_lookup value l name es rest left all named is at so_far found = grind (arith, is_some-named, twice_here, same_turned)

named_more : {R : Type 0} (value : R → LookupParts) (es : List (String Global × R)) (name : String Global) (r : R) → AreNamed value es → string_bytes name ≡ (value r).name
    → AreNamed value (es ++ (name, r) ∷ [])
named_more value [] name r named is = (is, tt)
named_more value (e ∷ es) name r named is = (named.0, named_more value es name r named.1 is)

module _ {R S : Type 0} (value : R → LookupParts) (m : IndexMap (String Global) R S) (name : String Global) (r : R) (none : value_at (string_eq name) m.entries ≡ None) where
  -- a lookup whose name none has so far
  pub lookup_more : (es : List (String Global × R)) (rest left all : List LookupParts) → es ≡ insert_entry string_eq m.entries name r → left ≡ value r ∷ rest
      → lookups_in value m.entries ++ left ≡ all → lookups_in value es ++ rest ≡ all
  lookup_more es rest left all is at so_far = grind (arith, insert_entry-new, map-append, append_assoc)

  pub still_apart : (es : List (String Global × R)) → es ≡ insert_entry string_eq m.entries name r → AreNamed value m.entries → string_bytes name ≡ (value r).name
      → has_duplicate is_same_lookup (lookups_in value m.entries) ≡ false → has_duplicate is_same_lookup (lookups_in value es) ≡ false
  still_apart es is named of single =
      let among : list_any (is_same_lookup (value r)) (lookups_in value m.entries) ≡ false = sym (is_some-named value (value r) name m.entries named of) ∙ ap is_some none in
      let parts : lookups_in value es ≡ lookups_in value m.entries ++ value r ∷ [] =
      ap (lookups_in value) (is ∙ insert_entry-new string_eq m name r none) ∙ map-append (λ (e : String Global × R). value e.1) m.entries ((name, r) ∷ []) in
      ap (has_duplicate is_same_lookup) parts ∙ once_more is_same_lookup same_turned (value r) (lookups_in value m.entries) single among

  pub still_named : (es : List (String Global × R)) → es ≡ insert_entry string_eq m.entries name r → AreNamed value m.entries → string_bytes name ≡ (value r).name → AreNamed value es
  still_named es is named of = subst (λ l. AreNamed value l) (sym (is ∙ insert_entry-new string_eq m name r none)) (named_more value m.entries name r named of)
