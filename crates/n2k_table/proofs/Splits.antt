-- The halves and the pairs of digits in a word, all split at once.
use Rattle.std.proofs.Common.{◌≡◌, ℕ, ◌+◌, ◌*◌, ◌/◌, ◌%◌, ◌^◌, ◌<◌, bit_and, arith}
use Rattle.std.proofs.lemmas.Nat.{and_block, and_mask}

hundreds_of : (h l : ℕ) → h < 10000 → l < 10000 → bit_and ((h + l * 2 ^ 32) * 10486 / 2 ^ 20) 545460846719 ≡ h / 100 + l / 100 * 2 ^ 32
hundreds_of h l H L = grind (arith, and_mask (l * 10486 / 2 ^ 20) 7, and_mask (l * 10486 % 2 ^ 20 * 2 ^ 12 + h * 10486 / 2 ^ 20) 7, and_block 32 (l * 10486 / 2 ^ 20) 127 (l * 10486 % 2 ^ 20 * 2 ^ 12 + h * 10486 / 2 ^ 20) 127 (omega arith) (omega arith))

-- the hundreds of both halves of a number below 10 ^ 8
pub hundreds_are : (n : ℕ) → n < 10 ^ 8 → bit_and ((n / 10000 + n % 10000 * 2 ^ 32 % 2 ^ 64) * 10486 / 2 ^ 20) 545460846719 ≡ n / 10 ^ 6 + n / 10 ^ 2 % 100 * 2 ^ 32
hundreds_are n small = grind (arith, hundreds_of (n / 10000) (n % 10000) (omega arith) (omega arith))

tens_before : (a r m : ℕ) → a < 100 → bit_and ((a * 103 + r * 2 ^ 16) / 2 ^ 10) (m * 2 ^ 16 + 15) ≡ bit_and (r / 2 ^ 10) m * 2 ^ 16 + a / 10
tens_before a r m A = grind (arith, and_mask (r % 2 ^ 10 * 2 ^ 6 + a * 103 / 2 ^ 10) 4, and_block 16 (r / 2 ^ 10) m (r % 2 ^ 10 * 2 ^ 6 + a * 103 / 2 ^ 10) 15 (omega arith) (omega arith))

-- the tens of four numbers below 100
pub tens_are : (a b c d x : ℕ) → a < 100 → b < 100 → c < 100 → d < 100 → x ≡ a + b * 2 ^ 16 + c * 2 ^ 32 + d * 2 ^ 48
    → bit_and (x * 103 / 2 ^ 10) 4222189076152335 ≡ a / 10 + b / 10 * 2 ^ 16 + c / 10 * 2 ^ 32 + d / 10 * 2 ^ 48
tens_are a b c d x A B C D is = grind (arith, and_mask (d * 103 / 2 ^ 10) 4, tens_before c (d * 103) 15 C, tens_before b (c * 103 + d * 103 * 2 ^ 16) 983055 B, tens_before a (b * 103 + (c * 103 + d * 103 * 2 ^ 16) * 2 ^ 16) 64425492495 A)
