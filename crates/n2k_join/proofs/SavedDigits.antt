-- Hexadecimal digits are text.
use Rattle.std.proofs.Common.{◌≡◌, ℕ, true, List, [], ◌∷◌, refl, nat_lt}
use Rattle.std.proofs.lemmas.Bool.{and_parts, ltb-true}
use Rattle.std.proofs.lemmas.Str.{IsUtf8-from_ascii}
use Rattle.std.proofs.lemmas.Str.Ascii.{IsAscii-nil, IsAscii-cons}
use Rattle.std.specs.List.{list_all}
use Rattle.std.specs.Str.{IsUtf8, IsAscii}
use Rattle.hex.specs.Hex.{encode_lower, lower_digits}
use Rattle.hex.proofs.HexLemmas.{IsAscii-encode_with}

ascii_by : (bs : List ℕ) → list_all (λ b. nat_lt b 128) bs ≡ true → IsAscii bs
ascii_by [] h = IsAscii-nil
ascii_by (b ∷ bs) h = let parts = and_parts (nat_lt b 128) (list_all (λ b. nat_lt b 128) bs) h in IsAscii-cons b bs (ltb-true b 128 parts.0) (ascii_by bs parts.1)

pub IsUtf8-encode_lower : (bytes : List ℕ) → IsUtf8 (encode_lower bytes)
IsUtf8-encode_lower bytes = IsUtf8-from_ascii _ (IsAscii-encode_with lower_digits bytes (ascii_by lower_digits refl))

-- for the writers of digits
pub ruleset digits = (IsUtf8-encode_lower)
