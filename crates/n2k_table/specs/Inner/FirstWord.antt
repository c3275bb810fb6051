-- The first eight bytes of a message or of a set as one number.
use Rattle.std.specs.Prelude.{◌≡◌, ◌≤◌, ℕ, ◌+◌, ◌*◌, ◌/◌, ◌%◌, ◌^◌, List, length}
use Rattle.n2k_table.specs.Bits.{raw}

-- The bits of these bytes that are among the first 64 are the word's bits at the same places. After the end of the bytes
-- the word may have any bits.
abbrev pub HasFirstBits : ℕ → List ℕ → Type 0
HasFirstBits word payload =
    (at bits : ℕ) → at + bits ≤ 64 → at + bits ≤ 8 * length payload → word / 2 ^ at % 2 ^ bits ≡ raw payload at bits
