-- The fields that a line gives.
use Rattle.std.specs.Prelude.{ℕ, Bool, true, false, ◌&&◌, ◌||◌, List, Option, Some, None, is_some, option_map, if◌then◌else◌}
use Rattle.std.specs.List.{list_any}
use Rattle.std.specs.Str.{bytes_eq}
use Rattle.json.specs.Json.{Json, null, boolean, number, string, array, object, Items, no_items, item, Members, no_members, member}
use Rattle.json.specs.Find.{get, is_null, as_object}
use Rattle.n2k_table.specs.Definition.{DefinitionParts, list_name}
use Rattle.n2k_table.specs.Field.{FieldParts}
use Rattle.n2k_table.specs.Fields.{has_name}
use Rattle.n2k_table.specs.Repeat.{RepeatParts}
use Rattle.n2k_encode.specs.Refusal.{CauseParts, field, value}
use Rattle.n2k_encode.specs.Steps.{first_of}

-- a given value; `null` counts as not given
abbrev pub if_any : Option Json → Option Json
if_any None = None
if_any (Some j) = if is_null j then None else Some j

-- the value that a line gives for a field
abbrev pub given : List ℕ → Json → Option Json
given name fields = if_any (get name fields)

-- the name of a field, or `list` if the definition has sets
abbrev pub is_name : List FieldParts → Bool → List ℕ → Bool
is_name fields has_list name = list_any (has_name name) fields || (has_list && bytes_eq name list_name)

-- the members of an object; none of any other value
abbrev pub members_in : Option Members → Members
members_in None = no_members
members_in (Some ms) = ms

-- the name of the first given member that fails the test
abbrev pub first_failing : (List ℕ → Bool) → Members → Option (List ℕ)
first_failing p no_members = None
first_failing p (member k j ms) = if is_null j || p k then first_failing p ms else Some k

abbrev pub first_unknown : (List ℕ → Bool) → Json → Option (List ℕ)
first_unknown p j = first_failing p (members_in (as_object j))

-- the first given name in these sets that no field of the set has
abbrev pub first_in_sets : List FieldParts → Items → Option (List ℕ)
first_in_sets fields no_items = None
first_in_sets fields (item j js) = first_of (first_unknown (is_name fields false) j) (first_in_sets fields js)

-- the given sets: none without `list`, `None` if `list` is not an array
abbrev pub sets_of : Option Json → Option Items
sets_of None = Some no_items
sets_of (Some null) = None
sets_of (Some (boolean b)) = None
sets_of (Some (number s)) = None
sets_of (Some (string s)) = None
sets_of (Some (array js)) = Some js
sets_of (Some (object ms)) = None

abbrev pub given_sets : Json → Option Items
given_sets fields = sets_of (given list_name fields)

abbrev pub are_objects : Items → Bool
are_objects no_items = true
are_objects (item j js) = is_some (as_object j) && are_objects js

-- The first fault of the given names: those of the definition first, then those of its sets. `list` must be an array of
-- objects.
abbrev pub wrong_in_sets : List FieldParts → Option Items → Option CauseParts
wrong_in_sets fields None = Some (value list_name)
wrong_in_sets fields (Some js) =
    first_of (option_map field (first_in_sets fields js)) (if are_objects js then None else Some (value list_name))

abbrev pub wrong_sets : Option RepeatParts → Json → Option CauseParts
wrong_sets None fields = None
wrong_sets (Some r) fields = wrong_in_sets r.fields (given_sets fields)

abbrev pub wrong_names : DefinitionParts → Json → Option CauseParts
wrong_names d fields =
    first_of (option_map field (first_unknown (is_name d.fields (is_some d.repeat)) fields)) (wrong_sets d.repeat fields)
