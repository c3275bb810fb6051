-- The names of values: as the code's map finds them, and as entries of a document.
use Rattle.std.proofs.Common.{◌≡◌, ℕ, zero, suc, ◌+◌, ◌<◌, drop, find, slice_get, Bool, true, false, ◌&&◌, ◌||◌, nat_eq, nat_le, List, [], ◌∷◌, ◌++◌, map, Option, Some, None, is_some, Err, refl, sym, ap, ◌∙◌, append_assoc, inl, inr, arith}
use Rattle.std.specs.Map.{lookup as value_at}
use Rattle.std.specs.List.{list_any}
use Rattle.std.specs.Str.{bytes_eq}
use Rattle.std.proofs.lemmas.Bool.{cases_Bool, or_parts, false≢true}
use Rattle.std.proofs.lemmas.Bool.Decides.{nat_tests}
use Rattle.std.proofs.lemmas.List.{map-append}
use Rattle.indexmap.specs.IndexMap.{IndexMap, insert_entry}
use Rattle.indexmap.proofs.CallerLemmas.{insert_entry-new}
use Rattle.n2k_table.specs.declared.fault.TableFault.TheVariants.{Twice}
use Rattle.n2k_table.specs.Duplicate.{has_duplicate}
use Rattle.n2k_table.specs.Inner.Entries.{entry_pair}
use Rattle.n2k_table.specs.Lookup.{name_of_value, once}

pub name_of_value-entry_pair : (value : ℕ) (es : List (ℕ × List ℕ)) → name_of_value (map entry_pair es) value ≡ value_at (nat_eq value) es
name_of_value-entry_pair value [] = refl
name_of_value-entry_pair value (e ∷ es) =
    elim (cases_Bool (nat_eq value e.0)) [
      | inl same ↦ rw same refl
      | inr other ↦ rw other (name_of_value-entry_pair value es)
    ]

-- a value that no entry from a place on has
pub none_from : {R : Type 0} (es : List (ℕ × R)) (at value : ℕ) (e : ℕ × R) → Some e ≡ slice_get es at → e.0 < value → value_at (nat_eq value) (drop (at + 1) es) ≡ None
    → value_at (nat_eq value) (drop at es) ≡ None
none_from [] at value e here less none = grind arith
none_from (x ∷ es) zero value e here less none = grind arith
none_from (x ∷ es) (suc at) value e here less none = grind (arith, none_from es at value e here less)

module _ (most : ℕ) (name : List ℕ) where
  -- whether an entry has this name and a value that is small enough
  abbrev pub has_name : ℕ × List ℕ → Bool
  has_name e = nat_le e.0 most && bytes_eq e.1 name

  -- an entry at a place that has the name is the first of those from there on
  pub find_here : (es : List (ℕ × List ℕ)) (at : ℕ) (e : ℕ × List ℕ) → Some e ≡ slice_get es at → has_name (entry_pair e) ≡ true
      → find has_name (drop at (map entry_pair es)) ≡ Some (entry_pair e)
  find_here [] at e here is = grind arith
  find_here (x ∷ es) zero e here is = grind arith
  find_here (x ∷ es) (suc at) e here is = grind (arith, find_here es at e here is)

  -- one that has not is passed over
  pub find_later : (es : List (ℕ × List ℕ)) (at : ℕ) (e : ℕ × List ℕ) → Some e ≡ slice_get es at → has_name (entry_pair e) ≡ false
      → find has_name (drop at (map entry_pair es)) ≡ find has_name (drop (at + 1) (map entry_pair es))
  find_later [] at e here not = grind arith
  find_later (x ∷ es) zero e here not = grind arith
  find_later (x ∷ es) (suc at) e here not = grind (arith, find_later es at e here not)

-- the values of entries
abbrev pub values : List (ℕ × List ℕ) → List ℕ
values entries = map (λ e. e.0) entries

-- a value has a name if it is among the values
pub is_some-among : (value : ℕ) (es : List (ℕ × List ℕ)) → is_some (value_at (nat_eq value) es) ≡ list_any (nat_eq value) (values (map entry_pair es))
is_some-among value [] = refl
is_some-among value (e ∷ es) =
    elim (cases_Bool (nat_eq value e.0)) [
      | inl same ↦ rw same refl
      | inr other ↦ rw other (is_some-among value es)
    ]

same_turned : (a b : ℕ) → nat_eq a b ≡ nat_eq b a
same_turned a b = grind (arith, nat_tests)

module _ {X : Type 0} (same : X → X → Bool) (turned : (a b : X) → same a b ≡ same b a) where
  or_true : (b : Bool) → (b || true) ≡ true
  or_true true = refl
  or_true false = refl

  any_later : (k v : X) (ks rest : List X) → same k v ≡ true → list_any (same k) (ks ++ v ∷ rest) ≡ true
  any_later k v [] rest is = rw is refl
  any_later k v (x ∷ xs) rest is = rw (any_later k v xs rest is) (or_true (same k x))

  -- one that is the same as an earlier one comes twice
  pub twice_here : (v : X) (ks rest : List X) → list_any (same v) ks ≡ true → has_duplicate same (ks ++ v ∷ rest) ≡ true
  twice_here v [] rest among = absurd (false≢true among)
  twice_here v (k ∷ ks) rest among =
      elim (cases_Bool (same v k)) [
        | inl is ↦ rw (any_later k v ks rest (turned k v ∙ is)) refl
        | inr other ↦
            let later : list_any (same v) ks ≡ true = rw other at among in
            rw (twice_here v ks rest later) (or_true (list_any (same k) (ks ++ v ∷ rest)))
      ]

  none_later : (k v : X) (ks : List X) → same k v ≡ false → list_any (same k) ks ≡ false → list_any (same k) (ks ++ v ∷ []) ≡ false
  none_later k v [] other none = rw other refl
  none_later k v (x ∷ xs) other none =
      let p = or_parts (same k x) (list_any (same k) xs) none in
      rw (p.0, none_later k v xs other p.1) refl

  -- one that is the same as none of them makes none stand twice
  pub once_more : (v : X) (ks : List X) → has_duplicate same ks ≡ false → list_any (same v) ks ≡ false → has_duplicate same (ks ++ v ∷ []) ≡ false
  once_more v [] single none = refl
  once_more v (k ∷ ks) single none =
      let p = or_parts (list_any (same k) ks) (has_duplicate same ks) single in
      let q = or_parts (same v k) (list_any (same v) ks) none in
      rw (none_later k v ks (turned k v ∙ q.0) p.0, once_more v ks p.1 q.1) refl

-- an entry whose value has a name already
pub twice_entry : (es : List (ℕ × List ℕ)) (e : ℕ × List ℕ) (rest left all : List (ℕ × List ℕ)) → left ≡ e ∷ rest → map entry_pair es ++ left ≡ all
    → is_some (value_at (nat_eq e.0) es) ≡ true → once all ≡ Err Twice
twice_entry es e rest left all is so_far found =
    let among : list_any (nat_eq e.0) (values (map entry_pair es)) ≡ true = sym (is_some-among e.0 es) ∙ found in
    let whole : all ≡ map entry_pair es ++ e ∷ rest = sym so_far ∙ ap (λ (l : List (ℕ × List ℕ)). map entry_pair es ++ l) is in
    let parts : values all ≡ values (map entry_pair es) ++ e.0 ∷ values rest = ap values whole ∙ map-append (λ (p : ℕ × List ℕ). p.0) (map entry_pair es) (e ∷ rest) in
    rw (ap (has_duplicate nat_eq) parts ∙ twice_here nat_eq same_turned e.0 (values (map entry_pair es)) (values rest) among) refl

module _ {S : Type 0} (m : IndexMap ℕ (List ℕ) S) (v : ℕ) (s : List ℕ) (none : value_at (nat_eq v) m.entries ≡ None) where
  grown : map entry_pair (insert_entry nat_eq m.entries v s) ≡ map entry_pair m.entries ++ (v, s) ∷ []
  grown = ap (map entry_pair) (insert_entry-new nat_eq m v s none) ∙ map-append entry_pair m.entries ((v, s) ∷ [])

  -- an entry whose value has none so far
  pub one_more_entry : (es : List (ℕ × List ℕ)) (rest left all : List (ℕ × List ℕ)) → es ≡ insert_entry nat_eq m.entries v s → left ≡ (v, s) ∷ rest
      → map entry_pair m.entries ++ left ≡ all → map entry_pair es ++ rest ≡ all
  one_more_entry es rest left all is at so_far =
      ap (λ (l : List (ℕ × List ℕ)). l ++ rest) (ap (map entry_pair) is ∙ grown) ∙ append_assoc (map entry_pair m.entries) ((v, s) ∷ []) rest
      ∙ ap (λ (l : List (ℕ × List ℕ)). map entry_pair m.entries ++ l) (sym at) ∙ so_far

  pub still_once : (es : List (ℕ × List ℕ)) → es ≡ insert_entry nat_eq m.entries v s → has_duplicate nat_eq (values (map entry_pair m.entries)) ≡ false
      → has_duplicate nat_eq (values (map entry_pair es)) ≡ false
  still_once es is single =
      let among : list_any (nat_eq v) (values (map entry_pair m.entries)) ≡ false = sym (is_some-among v m.entries) ∙ ap is_some none in
      let parts : values (map entry_pair es) ≡ values (map entry_pair m.entries) ++ v ∷ [] =
      ap values (ap (map entry_pair) is ∙ grown) ∙ map-append (λ (p : ℕ × List ℕ). p.0) (map entry_pair m.entries) ((v, s) ∷ []) in
      ap (has_duplicate nat_eq) parts ∙ once_more nat_eq same_turned v (values (map entry_pair m.entries)) single among

pub is_none : {X : Type 0} (o : Option X) → is_some o ≡ false → o ≡ None
is_none None none = refl
is_none (Some x) none = absurd (false≢true (sym none))
