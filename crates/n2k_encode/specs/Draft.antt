-- The data of a message before they are read back, and their possible ends: docs/PROFILE.md, "The data".
use Rattle.std.specs.Prelude.{ℕ, ◌+◌, ◌-◌, ◌/◌, nat_lt, nat_le, max, Bool, true, false, not, ◌&&◌, ◌||◌, List, [], ◌∷◌, length, drop, replicate}
use Rattle.std.specs.Prelude.{filter, fold, map, unwrap_or, Option, Some, None, Result, Ok, Err, if◌then◌else◌}
use Rattle.std.specs.List.{list_all, find}
use Rattle.std.specs.Option.{option_and_then}
use Rattle.std.specs.Str.{bytes_eq}
use Rattle.json.specs.Json.{Json, Items, no_items, item}
use Rattle.n2k_wire.specs.Steps.{◌>>=◌, or_cause, holds_or}
use Rattle.n2k_table.specs.declared.definition.Kind.{Kind}
use Rattle.n2k_table.specs.declared.definition.Kind.TheVariants.{Single, Fast}
use Rattle.n2k_table.specs.Definition.{DefinitionParts}
use Rattle.n2k_table.specs.Field.{is_string}
use Rattle.n2k_table.specs.Repeat.{RepeatParts, from_first, sets_in}
use Rattle.n2k_encode.specs.declared.coded.Layer.{Layer}
use Rattle.n2k_encode.specs.declared.coded.Layer.TheVariants.{Reserved, Asked, Given}
use Rattle.n2k_encode.specs.declared.draft.Draft.{Draft}
use Rattle.n2k_encode.specs.declared.value.Style.{Style}
use Rattle.n2k_encode.specs.Coded.{CodedParts, coded_all, coded_sets, is_given, is_reserved, is_same_layer}
use Rattle.n2k_encode.specs.Given.{given_sets}
use Rattle.n2k_encode.specs.Place.{put_bytes, put_code, end_of}
use Rattle.n2k_encode.specs.Refusal.{CauseParts, is_size, size}
use Rattle.n2k_encode.specs.Value.{CodeParts, bits, bytes}

-- A field is written in its layer. A string is also written in the first layer, because other fields are placed by it.
abbrev pub is_set_in : Layer → CodedParts → Bool
is_set_in layer c = is_same_layer layer c.layer || (is_reserved layer && is_string c.field.meaning)

-- the data after the fields of one layer are written
abbrev pub put_layer : Layer → List CodedParts → List ℕ → List ℕ
put_layer layer cs payload = fold (λ bs c. put_code c.field c.code bs) payload (filter (is_set_in layer) cs)

-- The data after all fields are written: "not available" first, then `match` values, then given values.
abbrev pub put_all : List CodedParts → List ℕ → List ℕ
put_all cs payload = put_layer Given cs (put_layer Asked cs (put_layer Reserved cs payload))

-- the greatest number of bytes in a message
abbrev pub most_data : Kind → ℕ
most_data Single = 8
most_data Fast = 223

-- data whose bits are all 1
abbrev pub blank : List ℕ
blank = replicate 223 255

-- the data contain the code of the field at its place
abbrev pub has_code : List ℕ → CodedParts → Bool
has_code payload c = bytes_eq (put_code c.field c.code payload) payload

-- No two given fields disagree about a bit: the data contain the code of each.
abbrev pub agree : List ℕ → List CodedParts → Bool
agree payload cs = list_all (λ c. not (is_given c.layer) || has_code payload c) cs

-- the later of two ends, if both are known
abbrev pub last_of : Option ℕ → Option ℕ → Option ℕ
last_of None other = None
last_of (Some own) None = None
last_of (Some own) (Some other) = Some (max own other)

-- The end of a field. For a field that is "not available" it is 0 if its place is not known or such fields do not count.
abbrev pub own_end : Bool → List ℕ → CodedParts → Option ℕ
own_end all payload c =
    if is_reserved c.layer then Some (if all then unwrap_or (end_of c.field c.code payload) 0 else 0)
    else end_of c.field c.code payload

-- the end of the last field, if all ends are known
abbrev pub end_of_all : Bool → List ℕ → List CodedParts → Option ℕ
end_of_all all payload cs = fold last_of (Some 0) (map (own_end all payload) cs)

abbrev pub is_shorter : ℕ → CodeParts → Bool
is_shorter width (bits raw) = false
is_shorter width (bytes bs) = nat_lt (length bs) width

-- the line gives fewer bytes than the width of the field
abbrev pub is_cut : CodedParts → Bool
is_cut c = is_given c.layer && is_shorter (c.field.bits / 8) c.code

-- the end of the first field with fewer bytes than its width
abbrev pub short_end : List ℕ → List CodedParts → Option ℕ
short_end payload cs = option_and_then (λ c. end_of c.field c.code payload) (find is_cut cs)

-- the end of the first of these sets at byte `at`, if there is a set and it fits
abbrev pub end_within : ℕ → List (List ℕ) → Option ℕ
end_within at [] = None
end_within at (set ∷ sets) = if nat_le (at + length set) 223 then Some (at + length set) else None

-- the end of a set at byte `at`, if its strings have an end and it fits
abbrev pub set_end : RepeatParts → List CodedParts → ℕ → Option ℕ
set_end r cs at = end_within at (sets_in r (put_all cs blank))

-- the data from byte `at` on, filled up with bits that are 1
abbrev pub data_from : ℕ → List ℕ → List ℕ
data_from at payload = put_bytes blank 0 (drop at payload)

-- the data after the fields of one layer of a set are written, whose first byte is `at`
abbrev pub put_set_layer : Layer → List CodedParts → ℕ → List ℕ → List ℕ
put_set_layer layer cs at payload = put_bytes payload at (put_layer layer cs (data_from at payload))

-- The data after a set is written. Fields of the definition may be inside it: those with `match` and given ones are written
-- after the fields of the set that are "not available", and before its given ones.
abbrev pub put_set : List CodedParts → List CodedParts → ℕ → List ℕ → List ℕ
put_set own cs at payload =
    put_set_layer Given cs at (put_layer Given own (put_layer Asked own (put_set_layer Reserved cs at payload)))

-- no two given fields of the definition, and of the set that begins at byte `at`, disagree about a bit
abbrev pub both_agree : List CodedParts → List CodedParts → ℕ → List ℕ → Bool
both_agree own cs at payload = agree payload own && agree (data_from at payload) cs

-- data with sets: the end of the last set, if it is known, and whether no two given fields disagree about a bit
pub record SetsParts : Type 0 where
  pub payload : List ℕ
  pub end : Option ℕ
  pub agree : Bool

abbrev pub with_set_to : List CodedParts → SetsParts → List CodedParts → ℕ → Option ℕ → SetsParts
with_set_to own all cs at None = record { payload = all.payload; end = None; agree = all.agree }
with_set_to own all cs at (Some end) = record {
  payload = put_set own cs at all.payload;
  end = Some end;
  agree = all.agree && both_agree own cs at (put_set own cs at all.payload);
}

abbrev pub with_set_at : RepeatParts → List CodedParts → SetsParts → List CodedParts → Option ℕ → SetsParts
with_set_at r own all cs None = all
with_set_at r own all cs (Some at) = with_set_to own all cs at (set_end r cs at)

-- the data after one more set is written, if it fits
abbrev pub with_set_of : RepeatParts → List CodedParts → SetsParts → List CodedParts → SetsParts
with_set_of r own all cs = with_set_at r own all cs all.end

-- the data after all sets are written in order, or the first refusal of a value
abbrev pub laid_sets : RepeatParts → List CodedParts → SetsParts → Result (List (List CodedParts)) CauseParts → Result SetsParts CauseParts
laid_sets r own start (Ok sets) = Ok (fold (with_set_of r own) start sets)
laid_sets r own start (Err cause) = Err cause

-- data with these own fields and no sets yet, of which the first begins at this byte
abbrev pub without_sets : List CodedParts → List ℕ → ℕ → SetsParts
without_sets own payload first = record { payload = payload; end = Some first; agree = agree payload own }

-- the byte at which the first set begins
abbrev pub first_set : RepeatParts → List ℕ → ℕ
first_set r payload = length payload - length (from_first r payload)

abbrev pub is_none_given : Items → Bool
is_none_given no_items = true
is_none_given (item j js) = false

-- the data after the given sets are written
abbrev pub laid_repeat : Style → Option RepeatParts → Option Items → List CodedParts → List ℕ → Result SetsParts CauseParts
laid_repeat s None js own payload = Ok (without_sets own payload 0)
laid_repeat s (Some r) None own payload = Ok (without_sets own payload 0)
laid_repeat s (Some r) (Some js) own payload =
    if is_none_given js then Ok (without_sets own payload 0)
    else laid_sets r own (without_sets own payload (first_set r payload)) (coded_sets s r.fields js)

-- The end of the first short field. Without one: 8 in a single frame, the end of the last field or set in a fast packet.
abbrev pub whole_end : Option ℕ → Kind → ℕ → ℕ
whole_end (Some end) kind last = end
whole_end None Single last = 8
whole_end None Fast last = last

-- The data by a definition and their possible ends, or a refusal: of a value first, then of the size.
unfoldable pub draft_in : Style → DefinitionParts → Kind → Json → Result Draft CauseParts
draft_in s d kind j = do
  cs ← coded_all s j d.fields
  sets ← laid_repeat s d.repeat (given_sets j) cs (put_all cs blank)
  needed ← or_cause size (last_of (end_of_all false (put_all cs blank) cs) sets.end)
  last ← or_cause size (last_of (end_of_all true (put_all cs blank) cs) sets.end)
  few ← holds_or size (nat_le needed (most_data kind))
  Ok (record {
    bytes = sets.payload;
    needed = needed;
    whole = whole_end (short_end (put_all cs blank) cs) kind last;
    agree = sets.agree;
  })

-- the first result, or the second if the first is refused for its size
abbrev pub unless_long : Result Draft CauseParts → Result Draft CauseParts → Result Draft CauseParts
unless_long (Ok made) other = Ok made
unless_long (Err cause) other = if is_size cause then other else Err cause

-- The draft of a line. If it is too long, strings are written in their shortest encodings.
unfoldable pub draft_for : Bool → DefinitionParts → Kind → Json → Result Draft CauseParts
draft_for nearest d kind j =
    unless_long (draft_in (record { nearest = nearest; shortest = false }) d kind j)
    (draft_in (record { nearest = nearest; shortest = true }) d kind j)
