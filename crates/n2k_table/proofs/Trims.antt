-- Bytes without what fills them up, from their end.
use Rattle.std.proofs.Common.{arith, ◌≡◌, ℕ, Bool, true, false, ◌&&◌, List, [], ◌∷◌, ◌++◌, refl, ap, ◌∙◌}
use Rattle.std.specs.List.{list_all}
use Rattle.n2k_table.specs.Shown.{trimmed_of}

and_false : (b : Bool) → (b && false) ≡ false
and_false b = grind arith

all_but : (p : ℕ → Bool) (prefix : List ℕ) (last : ℕ) → p last ≡ true → list_all p (prefix ++ last ∷ []) ≡ list_all p prefix
all_but p [] last fills = rw fills refl
all_but p (b ∷ bs) last fills = ap (λ r. p b && r) (all_but p bs last fills)

not_all : (p : ℕ → Bool) (prefix : List ℕ) (last : ℕ) → p last ≡ false → list_all p (prefix ++ last ∷ []) ≡ false
not_all p [] last keeps = rw keeps refl
not_all p (b ∷ bs) last keeps = ap (λ r. p b && r) (not_all p bs last keeps) ∙ and_false (p b)

-- a last byte that fills up is cut
pub trimmed_more : (p : ℕ → Bool) (prefix : List ℕ) (last : ℕ) → p last ≡ true → trimmed_of p (prefix ++ last ∷ []) ≡ trimmed_of p prefix
trimmed_more p [] last fills = rw fills refl
trimmed_more p (b ∷ bs) last fills = grind (arith, trimmed_more p bs last fills, all_but)

-- and one that does not is kept, with all before it
pub trimmed_done : (p : ℕ → Bool) (prefix : List ℕ) (last : ℕ) → p last ≡ false → trimmed_of p (prefix ++ last ∷ []) ≡ prefix ++ last ∷ []
trimmed_done p [] last keeps = rw keeps refl
trimmed_done p (b ∷ bs) last keeps = rw (not_all p (b ∷ bs) last keeps) (ap (λ (t : List ℕ). b ∷ t) (trimmed_done p bs last keeps))
