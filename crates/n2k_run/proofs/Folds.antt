-- The output of entries, and of more entries after them.
use Rattle.std.proofs.Common.{◌≡◌, ℕ, List, [], ◌∷◌, ◌++◌, refl, sym, ap, ◌∙◌, append_assoc}
use Rattle.n2k_wire.specs.declared.entry.Entry.{Entry}
use Rattle.n2k_run.specs.Fold.{Fold, after_all, given_from}

module _ {S : Type 0} (m : Fold S) where
  pub after-append : (s : S) (es fs : List Entry) → after_all m s (es ++ fs) ≡ after_all m (after_all m s es) fs
  after-append s [] fs = refl
  after-append s (e ∷ es) fs = after-append (m.after s e) es fs

  pub given-append : (given : S → Entry → List ℕ) (s : S) (es fs : List Entry) → given_from given m s (es ++ fs) ≡ given_from given m s es ++ given_from given m (after_all m s es) fs
  given-append given s [] fs = refl
  given-append given s (e ∷ es) fs = ap (λ t. given s e ++ t) (given-append given (m.after s e) es fs) ∙ sym (append_assoc (given s e) (given_from given m (m.after s e) es) (given_from given m (after_all m (m.after s e) es) fs))
