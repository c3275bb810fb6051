-- A SHA-256 is bytes.
use Rattle.std.proofs.Common.{ℕ, zero, suc, ◌<◌, List, [], ◌∷◌, ◌++◌, slice_index, arith}
use Rattle.std.specs.Int.{w32, to_be_bytes}
use Rattle.sha2.specs.Sha256.{digest_bytes, sha256}

abbrev AreBytes : List ℕ → Type 0
AreBytes xs = (i : ℕ) → slice_index xs i < 256

both : (xs ys : List ℕ) → AreBytes xs → AreBytes ys → AreBytes (xs ++ ys)
both [] ys first second i = second i
both (x ∷ xs) ys first second zero = first zero
both (x ∷ xs) ys first second (suc i) = both xs ys (λ j. first (suc j)) second i

word : (n : ℕ) → AreBytes (to_be_bytes w32 n)
word n zero = omega arith
word n (suc zero) = omega arith
word n (suc (suc zero)) = omega arith
word n (suc (suc (suc zero))) = omega arith
word n (suc (suc (suc (suc i)))) = omega arith

digest : (h : List ℕ) (n : ℕ) → AreBytes (digest_bytes h n)
unfolding digest_bytes
digest h zero i = omega arith
digest h (suc n) i = both (digest_bytes h n) (to_be_bytes w32 (slice_index h n)) (digest h n) (word (slice_index h n)) i

pub are_bytes : (m : List ℕ) → AreBytes (sha256 m)
unfolding sha256
are_bytes m = digest _ 8
