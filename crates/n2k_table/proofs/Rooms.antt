-- What a room holds of a line, as bytes are written to it.
use Rattle.std.proofs.Common.{◌≡◌, ℕ, suc, ◌+◌, ◌≤◌, List, [], ◌∷◌, ◌++◌, length, take, sym, ap, append_assoc, arith, length-take-le, take-take}

take_past : (p q : List ℕ) (k : ℕ) → take (length p + k) (p ++ q) ≡ p ++ take k q
take_past [] q k = grind arith
take_past (x ∷ p) q k =
    let one : length (x ∷ p) + k ≡ suc (length p + k) = omega arith in
    rw one (ap (λ (t : List ℕ). x ∷ t) (take_past p q k))

-- the first of some bytes that were written after others
pub partly : (room old bytes : List ℕ) (at count n : ℕ) → take (at + n) room ≡ take at old ++ bytes → count ≤ n → at ≤ length old
    → take (at + count) room ≡ take at old ++ take count bytes
partly room old bytes at count n is few inside = grind (arith, length-take-le at old inside, take-take (at + count) (at + n) room (omega arith), take_past (take at old) bytes count)

-- bytes after the content of a room come after the whole
pub appended : (items out held bytes text : List ℕ) → items ≡ out ++ held → text ≡ held ++ bytes → out ++ text ≡ items ++ bytes
appended items out held bytes text is more = rw (is, more) (sym (append_assoc out held bytes))
