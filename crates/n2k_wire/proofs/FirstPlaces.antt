-- The first place of a byte, as `memchr` returns it.
use Rattle.std.proofs.Common.{◌≡◌, ℕ, List, length, get_or, Option, Some, None, arith, position, ◌==◌}
use Rattle.std.proofs.lemmas.Bool.{false_from_ne_true}
use Rattle.std.proofs.lemmas.List.Sums.{position_or_len_is}
use Rattle.memchr.specs.Find.{IsFirstByte, is_byte}

pub first_place : (byte : ℕ) (bytes : List ℕ) (found : Option ℕ) → IsFirstByte (is_byte byte) bytes found → found ≡ position (λ b. b == byte) bytes
first_place byte bytes None nowhere = grind (arith, position_or_len_is (λ b. b == byte) bytes (length bytes) 0 (omega arith) (λ k within. false_from_ne_true (get_or bytes k 0 == byte) (nowhere k (omega arith) within)) (λ within. absurd (omega arith)))
first_place byte bytes (Some place) found = grind (arith, position_or_len_is)
