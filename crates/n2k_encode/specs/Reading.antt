-- Data that read back: they show exactly the fields that a line gives.
use Rattle.std.specs.Prelude.{ℕ, Bool, true, false, not, ◌&&◌, ◌||◌, List, [], ◌∷◌, Option, Some, None, is_some}
use Rattle.std.specs.List.{list_all, find}
use Rattle.json.specs.Json.{Json, Items, no_items, item}
use Rattle.n2k_table.specs.Definition.{DefinitionParts}
use Rattle.n2k_table.specs.Field.{FieldParts}
use Rattle.n2k_table.specs.Repeat.{RepeatParts, sets}
use Rattle.n2k_table.specs.Shown.{ShownParts, shown}
use Rattle.n2k_table.specs.Shown as shows
use Rattle.n2k_encode.specs.declared.reading.Reading.{Reading}
use Rattle.n2k_encode.specs.Given.{given, given_sets}
use Rattle.n2k_encode.specs.Says.{says, slack}

abbrev pub is_absent : ShownParts → Bool
is_absent shows.absent = true
is_absent _ = false

-- A field shows its given value. If none is given, it shows nothing, or, if `adding` allows it, the value that it fixes
-- with `match`.
abbrev pub as_given : Reading → FieldParts → ShownParts → Option Json → Bool
as_given reading f s None = is_absent s || (reading.adding && is_some f.match_value)
as_given reading f s (Some j) = says (slack reading.nearest f.meaning) s j

unfoldable pub field_shows : Reading → Json → List ℕ → FieldParts → Bool
field_shows reading fields payload f = as_given reading f (shown f payload) (given f.name fields)

-- the first field that does not show its given value
abbrev pub first_wrong : Reading → Json → List ℕ → List FieldParts → Option FieldParts
first_wrong reading fields payload fs = find (λ f. not (field_shows reading fields payload f)) fs

abbrev pub fields_show : Reading → Json → List ℕ → List FieldParts → Bool
fields_show reading fields payload fs = list_all (field_shows reading fields payload) fs

-- the data have as many sets as the line gives, and each set shows the given values
abbrev pub sets_show : Reading → List FieldParts → Items → List (List ℕ) → Bool
sets_show reading fs no_items [] = true
sets_show reading fs no_items (set ∷ sets) = false
sets_show reading fs (item j js) [] = false
sets_show reading fs (item j js) (set ∷ sets) = fields_show reading j set fs && sets_show reading fs js sets

abbrev pub given_sets_show : Reading → RepeatParts → Option Items → List ℕ → Bool
given_sets_show reading r None payload = false
given_sets_show reading r (Some js) payload = sets_show reading r.fields js (sets r payload)

abbrev pub repeat_shows : Reading → Option RepeatParts → Json → List ℕ → Bool
repeat_shows reading None fields payload = true
repeat_shows reading (Some r) fields payload = given_sets_show reading r (given_sets fields) payload

-- by this definition, data show exactly the given fields and sets
unfoldable pub shows_all : Reading → DefinitionParts → Json → List ℕ → Bool
shows_all reading d fields payload =
    fields_show reading fields payload d.fields && repeat_shows reading d.repeat fields payload
