-- Elements before those of a result.
use Rattle.std.proofs.Common.{◌≡◌, List, [], ◌∷◌, ◌++◌, Result, Ok, Err, refl, ap, append_assoc, append-nil}
use Rattle.n2k_encode.specs.Refusal.{CauseParts}
use Rattle.n2k_encode.specs.Steps.{before_all}

pub before_all_more : {X : Type 0} → (xs : List X) (y : X) (r : Result (List X) CauseParts) → before_all (xs ++ y ∷ []) r ≡ before_all xs (before_all (y ∷ []) r)
before_all_more xs y (Ok zs) = ap Ok (append_assoc xs (y ∷ []) zs)
before_all_more xs y (Err cause) = refl

pub before_all_none : {X : Type 0} → (r : Result (List X) CauseParts) → before_all [] r ≡ r
before_all_none (Ok zs) = refl
before_all_none (Err cause) = refl

pub before_all_end : {X : Type 0} → (xs : List X) → before_all xs (Ok []) ≡ Ok xs
before_all_end xs = ap Ok (append-nil xs)

pub ruleset before_rules = (before_all_more, before_all_none, before_all_end)
