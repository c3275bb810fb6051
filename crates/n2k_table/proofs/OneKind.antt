-- All definitions of a PGN name the kind of the PGN if none are mixed.
use Rattle.std.proofs.Common.{◌≡◌, ℕ, Bool, true, false, ◌<◌, List, [], ◌∷◌, length, get_or, drop, Option, Some, is_some, option_map, All, refl, sym, ap, ◌∙◌, inl, inr, arith}
use Rattle.std.specs.List.{list_any, find, AllByRecursion}
use Rattle.std.proofs.lemmas.Bool.{cases_Bool, or_parts}
use Rattle.std.proofs.lemmas.List.{drop_more}
use Rattle.std.proofs.lemmas.List.Elements.{All-from_recursion}
use Rattle.n2k_table.specs.declared.definition.Kind.{Kind}
use Rattle.n2k_table.specs.Definition.{DefinitionParts}
use Rattle.n2k_table.specs.Duplicate.{has_duplicate}
use Rattle.n2k_table.specs.Table.{TableParts, are_mixed, is_of, kind}
use Rattle.n2k_table.specs.Inner.Index.{differs, differs_from}

-- the kind of a PGN by the first of some definitions
abbrev kind_in : List DefinitionParts → ℕ → Option Kind
kind_in ds pgn = option_map (λ d. d.kind) (find (is_of pgn) ds)

-- one more definition before them, with which none is mixed, changes no kind
one : (e d : DefinitionParts) (rest : List DefinitionParts) → kind_in rest d.pgn ≡ Some d.kind → are_mixed e d ≡ false
    → kind_in (e ∷ rest) d.pgn ≡ Some d.kind
one e d rest known pure = grind arith

each_one : (e : DefinitionParts) (rest ds : List DefinitionParts) → AllByRecursion (λ d. kind_in rest d.pgn ≡ Some d.kind) ds
    → list_any (are_mixed e) ds ≡ false → AllByRecursion (λ d. kind_in (e ∷ rest) d.pgn ≡ Some d.kind) ds
each_one e rest [] known pure = tt
each_one e rest (d ∷ ds) known pure = grind (arith, each_one e rest ds known.1 (or_parts (are_mixed e d) (list_any (are_mixed e) ds) pure).1)

-- definitions of which none are mixed
kinds_agree : (ds : List DefinitionParts) → has_duplicate are_mixed ds ≡ false → AllByRecursion (λ d. kind_in ds d.pgn ≡ Some d.kind) ds
kinds_agree [] pure = tt
kinds_agree (e ∷ ds) pure = grind (arith, each_one e ds ds (kinds_agree ds (or_parts (list_any (are_mixed e) ds) (has_duplicate are_mixed ds) pure).1) (or_parts (list_any (are_mixed e) ds) (has_duplicate are_mixed ds) pure).0)

-- a table of which none are
pub one_kind : (t : TableParts) → has_duplicate are_mixed t.definitions ≡ false → All (λ d. kind t d.pgn ≡ Some d.kind) t.definitions
one_kind t pure = All-from_recursion (λ d. kind t d.pgn ≡ Some d.kind) t.definitions (kinds_agree t.definitions pure)

-- ---- the first of a PGN decides for all of it: a definition is mixed with another if one differs from the first

differs-none : (o : Option DefinitionParts) (d : DefinitionParts) → option_map (λ (e : DefinitionParts). e.kind) o ≡ Some d.kind → differs_from o d ≡ false
differs-none o d known = grind arith

none_differ : (all ds : List DefinitionParts) → AllByRecursion (λ d. kind_in all d.pgn ≡ Some d.kind) ds → list_any (differs all) ds ≡ false
none_differ all [] known = refl
none_differ all (d ∷ ds) known = rw (differs-none (find (is_of d.pgn) all) d known.0, none_differ all ds known.1) refl

-- a definition is among those that it is one of, so a first of its PGN is
found_more : (e : DefinitionParts) (rest ds : List DefinitionParts) → AllByRecursion (λ d. is_some (find (is_of d.pgn) rest) ≡ true) ds
    → AllByRecursion (λ d. is_some (find (is_of d.pgn) (e ∷ rest)) ≡ true) ds
found_more e rest [] found = tt
found_more e rest (d ∷ ds) found = grind (arith, found_more e rest ds found.1)

all_found : (ds : List DefinitionParts) → AllByRecursion (λ d. is_some (find (is_of d.pgn) ds) ≡ true) ds
all_found [] = tt
all_found (d ∷ ds) = grind (arith, found_more d ds ds (all_found ds))

find_passes : (p : DefinitionParts → Bool) (ds : List DefinitionParts) (x : DefinitionParts) → find p ds ≡ Some x → p x ≡ true
find_passes p [] x found = absurd cc
find_passes p (d ∷ ds) x found =
    elim (cases_Bool (p d)) [
      | inl here ↦
          let first : Some d ≡ Some x = rw here at found in
          let same : d ≡ x = cc in
          sym (ap p same) ∙ here
      | inr other ↦
          let later : find p ds ≡ Some x = rw other at found in
          find_passes p ds x later
    ]

no_pair : (all : List DefinitionParts) (e d : DefinitionParts) → is_some (find (is_of e.pgn) all) ≡ true → differs all e ≡ false → differs all d ≡ false → are_mixed e d ≡ false
no_pair all e d there first second = grind (arith, find_passes)

none_with : (all : List DefinitionParts) (e : DefinitionParts) (ds : List DefinitionParts) → is_some (find (is_of e.pgn) all) ≡ true → differs all e ≡ false
    → list_any (differs all) ds ≡ false → list_any (are_mixed e) ds ≡ false
none_with all e [] there first pure = refl
none_with all e (d ∷ ds) there first pure = grind (arith, none_with all e ds there first (or_parts (differs all d) (list_any (differs all) ds) pure).1, no_pair)

unmixed : (all ds : List DefinitionParts) → AllByRecursion (λ d. is_some (find (is_of d.pgn) all) ≡ true) ds → list_any (differs all) ds ≡ false → has_duplicate are_mixed ds ≡ false
unmixed all [] found pure = refl
unmixed all (e ∷ ds) found pure = grind (arith, unmixed all ds found.1 (or_parts (differs all e) (list_any (differs all) ds) pure).1, none_with)

pub mixed-differs : (ds : List DefinitionParts) → has_duplicate are_mixed ds ≡ list_any (differs ds) ds
mixed-differs ds = grind (arith, unmixed, all_found, none_differ, kinds_agree)

-- one of those that are left differs
pub any_here : (p : DefinitionParts → Bool) (ds : List DefinitionParts) (i : ℕ) (d : DefinitionParts) → i < length ds → d ≡ get_or ds i d → p d ≡ true → list_any p (drop i ds) ≡ true
any_here p ds i d within at passes = grind (arith, drop_more)
