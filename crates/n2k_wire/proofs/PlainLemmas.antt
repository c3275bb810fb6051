-- Reading the bytes of a plain line, one column at a time.
use Rattle.std.proofs.Common.{arith, ◌≡◌, ℕ, List, [], ◌∷◌, ◌++◌, length, Option, Some, None, refl, ap, append_assoc, option_map, append-nil}
use Rattle.std.proofs.lemmas.Bool.{eq-eqb, ne_eqb}
use Rattle.n2k_wire.specs.Plain.{pair, pairs, bytes_of}

-- the bytes read before, and those still read
abbrev pub with_prefix : List ℕ → Option (List ℕ) → Option (List ℕ)
with_prefix prefix read = option_map (λ bytes. prefix ++ bytes) read

pub regroup : (prefix byte : List ℕ) (read : Option (List ℕ)) → with_prefix prefix (option_map (λ bytes. byte ++ bytes) read) ≡ with_prefix (prefix ++ byte) read
regroup prefix byte read = grind (arith, append_assoc)

pub reads_column : (prefix byte column : List ℕ) (more : List (List ℕ)) → pair column ≡ Some byte → with_prefix prefix (pairs (column ∷ more)) ≡ with_prefix (prefix ++ byte) (pairs more)
unfolding pairs
reads_column prefix byte column more e = rw e (regroup prefix byte (pairs more))

pub ends_column : (prefix column : List ℕ) (more : List (List ℕ)) → pair column ≡ None → with_prefix prefix (pairs (column ∷ more)) ≡ None
unfolding pairs
ends_column prefix column more e = rw e refl

pub pairs-end : (prefix : List ℕ) → with_prefix prefix (pairs []) ≡ Some prefix
unfolding pairs
pairs-end prefix = ap Some (append-nil prefix)

pub bytes_of-pairs : (len : ℕ) (more : List (List ℕ)) → length more ≡ len → bytes_of len more ≡ pairs more
unfolding bytes_of
bytes_of-pairs len more e = rw (eq-eqb (length more) len e) refl

-- another number of columns
pub bytes_of-other : (len : ℕ) (more : List (List ℕ)) → (length more ≡ len → ⊥) → bytes_of len more ≡ None
unfolding bytes_of
bytes_of-other len more other = rw (ne_eqb (length more) len other) refl

-- a column that is not a byte, for any number of columns
pub bytes_of-bad : (len : ℕ) (more : List (List ℕ)) → pairs more ≡ None → bytes_of len more ≡ None
bytes_of-bad len more bad = grind (arith, bytes_of-pairs, bytes_of-other)
