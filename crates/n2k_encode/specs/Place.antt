-- Where the bits and bytes of fields go.
use Rattle.std.specs.Prelude.{ℕ, zero, suc, ◌+◌, ◌-◌, ◌*◌, ◌/◌, ◌%◌, ◌^◌, min, nat_lt, Bool}
use Rattle.std.specs.Prelude.{List, [], ◌∷◌, length, slice_index, slice_set, bit_and, bit_or, Option, Some, None, option_map, if◌then◌else◌}
use Rattle.n2k_table.specs.Bits.{has_bit}
use Rattle.n2k_table.specs.Field.{FieldParts}
use Rattle.n2k_table.specs.Strings.{data_after}
use Rattle.n2k_encode.specs.Value.{CodeParts, bits, bytes}

-- a byte with bit i set or cleared
abbrev pub with_bit : ℕ → ℕ → Bool → ℕ
with_bit byte i one = if one then bit_or byte (2 ^ i) else bit_and byte (255 - 2 ^ i)

-- data with a bit set or cleared, if they have it
abbrev pub set_bit : List ℕ → ℕ → Bool → List ℕ
set_bit payload i one =
    if nat_lt (i / 8) (length payload) then slice_set payload (i / 8) (with_bit (slice_index payload (i / 8)) (i % 8) one)
    else payload

-- data with n bits from bit a on set to a raw value: bit a + j to bit j of it, for each j below n
abbrev pub put_bits : List ℕ → ℕ → ℕ → ℕ → List ℕ
put_bits payload a zero r = payload
put_bits payload a (suc j) r = set_bit (put_bits payload a j r) (a + j) (has_bit r j)

-- a byte with n bits from bit i on set to the lowest bits of a raw value
abbrev pub with_bits : ℕ → ℕ → ℕ → ℕ → ℕ
with_bits byte i zero r = byte
with_bits byte i (suc j) r = with_bit (with_bits byte i j r) (i + j) (has_bit r j)

-- data with bytes from byte a on, those that the data have
abbrev pub put_bytes : List ℕ → ℕ → List ℕ → List ℕ
put_bytes payload a [] = payload
put_bytes payload a (b ∷ bs) = if nat_lt a (length payload) then put_bytes (slice_set payload a b) (a + 1) bs else payload

-- the byte from which a field's place counts, if each string before it has an end
abbrev pub start : FieldParts → List ℕ → Option ℕ
start f payload = option_map (λ rest. length payload - length rest) (data_after f.after payload)

-- data with a field that counts from byte s
abbrev pub put_at : FieldParts → CodeParts → List ℕ → ℕ → List ℕ
put_at f (bits raw) payload s = put_bits payload (8 * s + f.at) (min f.bits 64) raw
put_at f (bytes bs) payload s = put_bytes payload (s + f.at / 8) bs

abbrev pub put_from : FieldParts → CodeParts → List ℕ → Option ℕ → List ℕ
put_from f code payload None = payload
put_from f code payload (Some s) = put_at f code payload s

-- data with a field, set where `decode` looks for it
abbrev pub put_code : FieldParts → CodeParts → List ℕ → List ℕ
put_code f code payload = put_from f code payload (start f payload)

-- the byte after a field that counts from byte s
abbrev pub end_at : FieldParts → CodeParts → ℕ → ℕ
end_at f (bits raw) s = s + (f.at + f.bits + 7) / 8
end_at f (bytes bs) s = s + f.at / 8 + length bs

-- the byte after a field, if its place is known
abbrev pub end_of : FieldParts → CodeParts → List ℕ → Option ℕ
end_of f code payload = option_map (end_at f code) (start f payload)
