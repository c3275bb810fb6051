-- Bytes past the end of the data are not set.
use Rattle.std.proofs.Common.{◌≡◌, ℕ, ◌≤◌, List, [], ◌∷◌, length, refl, arith}
use Rattle.n2k_encode.specs.Place.{put_bytes}

pub past_end : (payload : List ℕ) (a : ℕ) (bs : List ℕ) → length payload ≤ a → put_bytes payload a bs ≡ payload
past_end payload a [] far = refl
past_end payload a (b ∷ bs) far = grind (arith, far)
