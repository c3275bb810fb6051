-- Keys, and the frames of one.
use Rattle.std.proofs.lemmas.Grind.{common_steps}
use Rattle.std.proofs.Common.{arith, ◌≡◌, true, false, cond, List, [], ◌∷◌, ◌++◌, refl, sym, ap, ◌∙◌}
use Rattle.std.specs.List.{AllByRecursion}
use Rattle.std.proofs.lemmas.List.Elements.{filter-append}
use Rattle.std.proofs.lemmas.Bool.{and_from, eq-eqb}
use Rattle.n2k_join.specs.Frames.{Key, same_key, Frame, of_key}
use Rattle.n2k_join.proofs.Carried.{same_bool}

pub same_key-true : (a b : Key) → same_key a b ≡ true → a ≡ b
unfolding same_key
same_key-true a b e = grind arith

pub same_key-refl : (a : Key) → same_key a a ≡ true
unfolding same_key
same_key-refl a = and_from _ _ (eq-eqb a.src a.src refl) (and_from _ _ (eq-eqb a.dst a.dst refl) (and_from _ _ (eq-eqb a.pgn a.pgn refl) (eq-eqb a.sequence a.sequence refl)))

pub same_key-from : (a b : Key) → a ≡ b → same_key a b ≡ true
same_key-from a b e = ap (same_key a) (sym e) ∙ same_key-refl a

pub same_key-sym : (a b : Key) → same_key a b ≡ same_key b a
same_key-sym a b = same_bool (same_key a b) (same_key b a) (λ e. same_key-from b a (sym (same_key-true a b e))) (λ e. same_key-from a b (sym (same_key-true b a e)))

-- one frame more of the same key
pub of_key-same : (k : Key) (fs : List Frame) (x : Frame) → same_key k x.key ≡ true → of_key k (fs ++ x ∷ []) ≡ of_key k fs ++ x ∷ []
of_key-same k fs x e = grind (arith, common_steps)

-- one frame more of another key
pub of_key-other : (k : Key) (fs : List Frame) (x : Frame) → same_key k x.key ≡ false → of_key k (fs ++ x ∷ []) ≡ of_key k fs
of_key-other k fs x e = grind (arith, common_steps)

pub of_key-append : (k : Key) (fs gs : List Frame) → of_key k (fs ++ gs) ≡ of_key k fs ++ of_key k gs
of_key-append k fs gs = filter-append (λ (f : Frame). same_key k f.key) fs gs

pub of_key-all : (k : Key) (fs : List Frame) → AllByRecursion (λ f. same_key k f.key ≡ true) fs → of_key k fs ≡ fs
of_key-all k [] all = refl
of_key-all k (f ∷ fs) all = ap (λ b. cond b (f ∷ of_key k fs) (of_key k fs)) all.0 ∙ ap (λ t. f ∷ t) (of_key-all k fs all.1)

pub of_key-none : (k : Key) (fs : List Frame) → AllByRecursion (λ f. same_key k f.key ≡ false) fs → of_key k fs ≡ []
of_key-none k [] all = refl
of_key-none k (f ∷ fs) all = ap (λ b. cond b (f ∷ of_key k fs) (of_key k fs)) all.0 ∙ of_key-none k fs all.1

-- a property of all frames holds of the frames of a key, which have that key
pub of_key-keeps : (P : Frame → Type 0) (k : Key) (fs : List Frame) → AllByRecursion P fs → AllByRecursion (λ f. P f × (f.key ≡ k)) (of_key k fs)
of_key-keeps P k [] all = tt
of_key-keeps P k (f ∷ fs) all = grind (arith, of_key-keeps P k fs all.1, same_key-true)
