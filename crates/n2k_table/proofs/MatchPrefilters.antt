-- What fields ask of the first eight bytes, put together.
use Rattle.std.proofs.Common.{◌≡◌, ℕ, ◌+◌, ◌-◌, ◌*◌, ◌/◌, ◌%◌, ◌^◌, ◌<◌, ◌≤◌, ◌≢◌, min, max, bit_and, bit_or, true, false, List, length, get_or, Option, Some, sym, ap, ◌∙◌, arith, lit<}
use Rattle.std.proofs.lemmas.Nat.{and_assoc, and_mask, and_shr, pow-add, shl_whole}
use Rattle.std.proofs.lemmas.Nat.Bits.{and_high, bit_at_and, bit_at_or, same_from_bits}
use Rattle.std.proofs.Math.Nat.{one-le-pow}
use Rattle.std.proofs.lemmas.Option.{slice_get-get_or}
use Rattle.n2k_table.specs.declared.index.Candidate.{Candidate}
use Rattle.n2k_table.specs.Bits.{raw}
use Rattle.n2k_table.specs.Definition.{DefinitionParts}
use Rattle.n2k_table.specs.Inner.Index.{IsOfPlace}
use Rattle.n2k_table.specs.Inner.MatchPrefilter.{IsMatchPrefilter}
use Rattle.n2k_table.specs.declared.match_prefilter.MatchPrefilter.{MatchPrefilter}
use Rattle.n2k_table.specs.Field.{FieldParts}
use Rattle.n2k_table.specs.Table.{has_match_value, matches}
use Rattle.n2k_table.proofs.RawBits.{raw_out_of}

min_max : (a b c : ℕ) → min a (max b c) ≡ max (min a b) (min a c)
min_max a b c = omega arith

-- bits that are taken under two masks
and_or : (word m n : ℕ) → bit_and word (bit_or m n) ≡ bit_or (bit_and word m) (bit_and word n)
and_or word m n = search (same_from_bits, bit_at_and, bit_at_or, min_max, arith)

once_more : (p q : ℕ) → (p + 1) * q ≡ p * q + q
once_more p q = grind arith

-- n bits from bit a on, under their mask
bits_under : (word a n value : ℕ) → a + n ≤ 64 → word / 2 ^ a % 2 ^ n ≡ value → bit_and word ((2 ^ n - 1) * 2 ^ a % 18446744073709551616) ≡ value * 2 ^ a % 18446744073709551616
bits_under word a n value inside is =
    let some : 1 ≤ 2 ^ n = one-le-pow n 2 (lit< tt) in
    let below : value < 2 ^ n = omega (arith, is, some) in
    let mask : (2 ^ n - 1) * 2 ^ a % 18446744073709551616 ≡ (2 ^ n - 1) * 2 ^ a = shl_whole (2 ^ n - 1) n a 64 (omega (arith, some)) (omega (arith, inside)) in
    let whole : value * 2 ^ a % 18446744073709551616 ≡ value * 2 ^ a = shl_whole value n a 64 below (omega (arith, inside)) in
    let one_more : 2 ^ n ≡ (2 ^ n - 1) + 1 = omega (arith, some) in
    let spread : 2 ^ n * 2 ^ a ≡ (2 ^ n - 1) * 2 ^ a + 2 ^ a = ap (λ p. p * 2 ^ a) one_more ∙ once_more (2 ^ n - 1) (2 ^ a) in
    let high : (2 ^ n - 1) * 2 ^ a ≡ 2 ^ (n + a) - 2 ^ a = omega (arith, pow-add 2 n a, spread) in
    ap (bit_and word) (mask ∙ high) ∙ and_high word n a ∙ ap (λ r. r * 2 ^ a) is ∙ sym whole

-- some bits more are asked for
pub more_bits : (word mask wanted a n value : ℕ) → a + n ≤ 64 → bit_and word mask ≡ wanted → word / 2 ^ a % 2 ^ n ≡ value
    → bit_and word (bit_or mask ((2 ^ n - 1) * 2 ^ a % 18446744073709551616)) ≡ bit_or wanted (value * 2 ^ a % 18446744073709551616)
more_bits word mask wanted a n value inside before is = grind (arith, and_or, bits_under)

-- what a field asks for is there
pub has_value : (payload : List ℕ) (f : FieldParts) (m : Option ℕ) (value : ℕ) → m ≡ Some value → has_match_value m f payload ≡ true → raw payload f.at f.bits ≡ value
has_value payload f m value is match = grind arith

-- the bits of a field that lies in the first eight bytes
pub in_word : (payload : List ℕ) (a n : ℕ) → a + n ≤ 64 → raw payload 0 64 / 2 ^ a % 2 ^ n ≡ raw payload a n
in_word payload a n inside = grind (arith, raw_out_of)

-- bits under a mask that has all of them are those that are wanted
wanted_bits : (word mask wanted a n value : ℕ) → bit_and word mask ≡ wanted → bit_and (mask / 2 ^ a) (2 ^ n - 1) ≡ 2 ^ n - 1 → bit_and (wanted / 2 ^ a) (2 ^ n - 1) ≡ value
    → word / 2 ^ a % 2 ^ n ≡ value
wanted_bits word mask wanted a n value is all same =
    sym (and_mask (word / 2 ^ a) n) ∙ ap (bit_and (word / 2 ^ a)) (sym all) ∙ sym (and_assoc (2 ^ n - 1) (word / 2 ^ a) (mask / 2 ^ a))
    ∙ ap (λ w. bit_and w (2 ^ n - 1)) (sym (and_shr word mask a) ∙ ap (λ w. w / 2 ^ a) is) ∙ same

-- the field at whose bits they stand has what it asks for
pub settled_field : (payload : List ℕ) (f : FieldParts) (m : Option ℕ) (value mask wanted : ℕ) → m ≡ Some value → f.at + f.bits ≤ 64 → 8 ≤ length payload
    → bit_and (raw payload 0 64) mask ≡ wanted → bit_and (mask / 2 ^ f.at) (2 ^ f.bits - 1) ≡ 2 ^ f.bits - 1 → bit_and (wanted / 2 ^ f.at) (2 ^ f.bits - 1) ≡ value
    → has_match_value m f payload ≡ true
settled_field payload f m value mask wanted is inside enough same all there =
    let raw_is : raw payload f.at f.bits ≡ value = sym (in_word payload f.at f.bits inside) ∙ wanted_bits (raw payload 0 64) mask wanted f.at f.bits value same all there in
    grind (arith, raw_is)

-- data whose first eight bytes differ don't match
pub differs : (payload : List ℕ) (p : MatchPrefilter) (d : DefinitionParts) → IsMatchPrefilter p d.fields → 8 ≤ length payload → bit_and (raw payload 0 64) p.mask ≢ p.wanted
    → false ≡ matches payload d
differs payload p d is enough other = grind arith

-- what is asked at the place of a candidate is what its definition asks for
pub asked_there : (ds : List DefinitionParts) (c : Candidate) (d : DefinitionParts) → IsOfPlace ds c → c.place < length ds → d ≡ get_or ds c.place d → IsMatchPrefilter c.match_prefilter d.fields
asked_there ds c d is inside at = grind (arith, slice_get-get_or)
