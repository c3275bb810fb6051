-- What the code keeps of a field, and that it is a field that can be shown.
use Rattle.std.specs.Prelude.{◌≡◌, ◌≤◌, nat_le, ℕ, ◌+◌, ◌-◌, ◌/◌, ◌^◌, true, List, [], ◌∷◌, Option, Some, None, IfSome}
use Rattle.std.specs.Prelude.{if◌then◌else◌}
use Rattle.n2k_table.specs.declared.field.Meaning.{Meaning as CodeMeaning}
use Rattle.n2k_table.specs.declared.field.Meaning.TheVariants as code
use Rattle.n2k_table.specs.declared.string_place.Step.{Step}
use Rattle.n2k_table.specs.declared.tree.FieldKind.{FieldKind}
use Rattle.n2k_table.specs.Field.{Meaning, number, shifted, named, flags, text, bytes, digits, string, most_number_bits}
use Rattle.n2k_table.specs.Field.{most_bits, fixed_place}
use Rattle.n2k_table.specs.Tree.{message_bits, has_bits}
use Rattle.n2k_table.specs.Inner.Line.{key_json}
use Rattle.n2k_table.specs.Inner.Number.{IsScale, IsShift}

-- what the bits mean, as contracts see it
abbrev pub meaning : CodeMeaning → Meaning
meaning (code.Number scale) = number scale.signed scale.resolution
meaning (code.Shifted shift) = shifted shift.offset shift.resolution
meaning (code.Lookup lookup) = named lookup.value.entries
meaning code.Text = text
meaning code.Bytes = bytes
meaning code.Digits = digits
meaning (code.Flags lookup) = flags lookup.value.entries
meaning (code.String form) = string form

-- so many bits can have the meaning, and what is kept of a number is of so many
abbrev pub HasRoom : CodeMeaning → ℕ → Type 0
HasRoom (code.Number scale) bits = (1 ≤ bits) × (bits ≤ most_number_bits) × IsScale bits scale
HasRoom (code.Shifted shift) bits = (1 ≤ bits) × (bits ≤ most_number_bits) × IsShift bits shift
HasRoom (code.Lookup lookup) bits = (1 ≤ bits) × (bits ≤ most_number_bits)
HasRoom code.Text bits = Unit {0}
HasRoom code.Bytes bits = Unit {0}
HasRoom code.Digits bits = Unit {0}
HasRoom (code.Flags lookup) bits = (1 ≤ bits) × (bits ≤ most_number_bits)
HasRoom (code.String form) bits = Unit {0}

-- the least bits of a field of the kind; a string has none
abbrev pub least_bits : FieldKind → ℕ
least_bits kind = if has_bits kind then 1 else 0

-- a field of the kind may have so many bits
abbrev pub HasBits : FieldKind → ℕ → Type 0
HasBits kind bits = (least_bits kind ≤ bits) × (bits ≤ most_bits kind)

-- how many bytes the data must have for a field to lie inside them; if strings precede the field, more than any
-- data have
abbrev pub bytes_needed : List Step → ℕ → ℕ → ℕ
bytes_needed [] at bits = (at + bits + 7) / 8
bytes_needed (s ∷ ss) at bits = 2 ^ 64 - 1

-- what is left of so many bytes beside some others, if these are known and are not more
abbrev pub left_beside : ℕ → Option ℕ → Option ℕ
left_beside room None = None
left_beside room (Some n) = if nat_le n room then Some (room - n) else None

-- if there is a mask, the bits lie in the first eight bytes, and it is theirs
abbrev pub IsWordMask : Option ℕ → ℕ → ℕ → Type 0
IsWordMask mask at bits = IfSome mask (λ m. (1 ≤ bits) × (at + bits ≤ 64) × (m ≡ 2 ^ bits - 1))

-- What the code keeps of each field: also the text before its value, and a place that a message can have.
pub record IsKept (name before_value : List ℕ) (at bits needed : ℕ) (word_mask : Option ℕ) (after : List Step)
    (meaning : CodeMeaning) (match_value : Option ℕ) : Type 0 where
  pub key : before_value ≡ key_json true name
  pub inside : at + bits ≤ message_bits
  pub fixed : fixed_place after at + bits ≤ message_bits
  pub end : needed ≡ bytes_needed after at bits
  pub mask : IsWordMask word_mask at bits
  pub room : HasRoom meaning bits
  pub room_match : IfSome match_value (λ _. (1 ≤ bits) × (bits ≤ most_number_bits))
