-- The codes of fields for a line, and the order in which they are written: docs/PROFILE.md, "The data".
use Rattle.std.specs.Prelude.{Bool, true, false, not, ◌||◌, List, [], ◌∷◌, ℕ, Option, Some, None, Result, Ok, Err, option_map}
use Rattle.json.specs.Json.{Json, Items, no_items, item}
use Rattle.n2k_wire.specs.Steps.{or_cause}
use Rattle.n2k_table.specs.Field.{FieldParts}
use Rattle.n2k_encode.specs.declared.coded.Layer.{Layer}
use Rattle.n2k_encode.specs.declared.coded.Layer.TheVariants.{Reserved, Asked, Given}
use Rattle.n2k_encode.specs.declared.value.Style.{Style}
use Rattle.n2k_encode.specs.Given.{given}
use Rattle.n2k_encode.specs.Refusal.{CauseParts, value}
use Rattle.n2k_encode.specs.Steps.{before_all}
use Rattle.n2k_encode.specs.Value.{CodeParts, bits, code_for, not_available}

-- a field with its code and its layer
pub record CodedParts : Type 0 where
  pub field : FieldParts
  pub layer : Layer
  pub code : CodeParts

abbrev pub is_given : Layer → Bool
is_given Reserved = false
is_given Asked = false
is_given Given = true

abbrev pub is_reserved : Layer → Bool
is_reserved Reserved = true
is_reserved Asked = false
is_reserved Given = false

abbrev pub is_same_layer : Layer → Layer → Bool
is_same_layer Reserved own = is_reserved own
is_same_layer Asked own = not (is_reserved own || is_given own)
is_same_layer Given own = is_given own

-- a field that the line does not give: it has its `match` value, or is "not available"
abbrev pub coded_absent : FieldParts → Option ℕ → CodedParts
coded_absent f (Some asked) = record { field = f; layer = Asked; code = bits asked }
coded_absent f None = record { field = f; layer = Reserved; code = not_available f.bits f.meaning }

-- the code of a field for the value that the line gives, if the field can show this value
abbrev pub coded : Style → FieldParts → Option Json → Option CodedParts
coded s f (Some j) = option_map (λ code. record { field = f; layer = Given; code = code }) (code_for s f j f.meaning)
coded s f None = Some (coded_absent f f.match_value)

-- a result before others, or the first refusal
abbrev pub result_before : {X : Type 0} → Result X CauseParts → Result (List X) CauseParts → Result (List X) CauseParts
result_before (Ok x) others = before_all (x ∷ []) others
result_before (Err cause) others = Err cause

-- the codes of all fields, or the refusal of the first value that its field cannot show
abbrev pub coded_all : Style → Json → List FieldParts → Result (List CodedParts) CauseParts
coded_all s j [] = Ok []
coded_all s j (f ∷ fs) = result_before (or_cause (value f.name) (coded s f (given f.name j))) (coded_all s j fs)

-- the codes of all given sets, or the first refusal
abbrev pub coded_sets : Style → List FieldParts → Items → Result (List (List CodedParts)) CauseParts
coded_sets s fs no_items = Ok []
coded_sets s fs (item j js) = result_before (coded_all s j fs) (coded_sets s fs js)
