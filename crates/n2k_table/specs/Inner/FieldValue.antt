-- What a field shows, as the code returns it for a line.
use Rattle.std.specs.Prelude.{ℕ, Bool, false, List, [], ◌∷◌, Option, Some, None}
use Rattle.n2k_table.specs.declared.field_value.FieldValue.{FieldValue}
use Rattle.n2k_table.specs.declared.field_value.FieldValue.TheVariants as code
use Rattle.n2k_table.specs.declared.flags.Flags.{Flags}
use Rattle.n2k_table.specs.declared.flags.NamedBit.{NamedBit}
use Rattle.n2k_table.specs.declared.flags.NamedBit.TheVariants as bit
use Rattle.n2k_table.specs.Field.{FieldParts}
use Rattle.n2k_table.specs.Shown.{FlagParts, flag_name, flag_bit, ShownParts, absent, number, name, text, bytes}
use Rattle.n2k_table.specs.Shown.{lies_inside}
use Rattle.n2k_table.specs.declared.string_place.Step.{Step}
use Rattle.n2k_table.specs.Inner.Number.{value_of}

-- the result as parts, and none if its kind is rare
abbrev pub value_parts : FieldValue → Option ShownParts
value_parts code.Absent = Some absent
value_parts (code.Number n) = Some (number (value_of n) n.resolution.decimals)
value_parts (code.Name n) = Some (name n.now)
value_parts (code.Text t) = Some (text t.now)
value_parts (code.Bytes b) = Some (bytes b.now)
value_parts code.Seldom = None

-- no string precedes the field, and it lies wholly inside the data
abbrev pub inside_after : List Step → FieldParts → List ℕ → Bool
inside_after [] f payload = lies_inside f payload
inside_after (s ∷ ss) f payload = false

abbrev pub stands_inside : FieldParts → List ℕ → Bool
stands_inside f payload = inside_after f.after f payload

-- a bit that is 1, as such a part
abbrev pub named_bit : NamedBit → FlagParts
named_bit (bit.Name n) = flag_name n.now
named_bit (bit.Bit i) = flag_bit i

-- what is compared of flags: the bits that are left, and the name of their lookup
abbrev pub flags_key : Flags → List ℕ
flags_key f = f.raw ∷ f.next ∷ f.end ∷ f.lookup.now.name
