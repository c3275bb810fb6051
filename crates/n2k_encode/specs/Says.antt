-- Whether a field shows the value that a line gives.
use Rattle.std.specs.Prelude.{ℕ, zero, suc, ℤ, pos, negsuc, ◌+◌, ◌-◌, ◌*◌, ◌==◌, nat_le, nat_lt, Bool, true, false, not, ◌&&◌, ◌||◌}
use Rattle.std.specs.Prelude.{List, [], ◌∷◌, length, take, drop, Option, Some, None, if◌then◌else◌}
use Rattle.std.specs.Char.Utf16.{utf16_lossy_chars}
use Rattle.std.specs.Int.RustNames.{unsigned_abs}
use Rattle.std.specs.Str.{bytes_eq}
use Rattle.fast_float.specs.Text.{scan}
use Rattle.json.specs.Json.{Json, Items, no_items, item}
use Rattle.json.specs.Find.{as_number, as_str, as_array}
use Rattle.n2k_table.specs.Field.{Meaning}
use Rattle.n2k_table.specs.Field as means
use Rattle.n2k_table.specs.Shown.{ShownParts, FlagParts, flag_name, flag_bit}
use Rattle.n2k_table.specs.Shown as shows
use Rattle.n2k_table.specs.Strings.{units}
use Rattle.n2k_table.specs.Text.{character, hex_pair, two_digits, space}
use Rattle.n2k_encode.specs.declared.numeral.Magnitude.{Magnitude}
use Rattle.n2k_encode.specs.Numeral.{is_negative, digits_of, scaled}
use Rattle.n2k_encode.specs.Steps.{is_some_with}

-- a given size is at most this slack away from the shown one
abbrev pub is_near : ℕ → ℕ → Magnitude → Bool
is_near slack shown given =
    if nat_lt given.size shown then nat_le (shown - given.size) slack
    else nat_lt (given.size - shown) slack || (given.size - shown == slack && not given.more)

-- a number is 0, or has this sign
abbrev pub has_sign : Bool → ℤ → Bool
has_sign negative (pos zero) = true
has_sign negative (pos (suc n)) = not negative
has_sign negative (negsuc n) = negative

-- A text writes the number x / 10 ^ e: exactly if the slack is 0, otherwise to within `slack` tenths of the last
-- decimal.
unfoldable pub number_is : ℕ → ℤ → ℕ → List ℕ → Bool
number_is slack x e text =
    has_sign (is_negative text) x && is_some_with (is_near slack (10 * unsigned_abs x)) (scaled (e + 1) (scan (digits_of text)))

-- half the resolution of a number, in tenths of its last decimal
abbrev pub half_unit : Meaning → ℕ
half_unit (means.number signed resolution) = 5 * resolution.mantissa
half_unit (means.shifted offset resolution) = 5 * resolution.mantissa
half_unit _ = 0

abbrev pub slack : Bool → Meaning → ℕ
slack nearest meaning = if nearest then half_unit meaning else 0

-- the rest of a text that begins with these bytes
abbrev pub after : List ℕ → List ℕ → Option (List ℕ)
after prefix text = if bytes_eq (take (length prefix) text) prefix then Some (drop (length prefix) text) else None

abbrev pub is_empty : List ℕ → Bool
is_empty [] = true
is_empty (b ∷ bs) = false

-- a text consists of the pieces of these numbers, in order, and nothing else
abbrev pub has_pieces : (ℕ → List ℕ) → List ℕ → List ℕ → Bool
has_pieces piece [] text = is_empty text
has_pieces piece (n ∷ ns) text = is_some_with (has_pieces piece ns) (after (piece n) text)

-- a space and a pair of hexadecimal digits
abbrev pub later_pair : ℕ → List ℕ
later_pair b = space ∷ hex_pair b

abbrev pub has_pairs : List ℕ → List ℕ → Bool
has_pairs [] text = is_empty text
has_pairs (b ∷ bs) text = is_some_with (has_pieces later_pair bs) (after (hex_pair b) text)

-- a value names the bit: by its name, or by its number if it has no name
abbrev pub is_flag : FlagParts → Json → Bool
is_flag (flag_name n) j = is_some_with (λ text. bytes_eq text n) (as_str j)
is_flag (flag_bit i) j = is_some_with (number_is 0 (pos i) 0) (as_number j)

abbrev pub any_item : (Json → Bool) → Items → Bool
any_item p no_items = false
any_item p (item j js) = p j || any_item p js

abbrev pub count_items : Items → ℕ
count_items no_items = 0
count_items (item j js) = suc (count_items js)

-- each bit is among the values, and their number is that of the bits
abbrev pub are_among : List FlagParts → ℕ → Items → Bool
are_among [] zero js = true
are_among [] (suc n) js = false
are_among (f ∷ fs) zero js = false
are_among (f ∷ fs) (suc n) js = any_item (is_flag f) js && are_among fs n js

-- a field shows this value
unfoldable pub says : ℕ → ShownParts → Json → Bool
says slack shows.absent j = false
says slack (shows.number x e) j = is_some_with (number_is slack x e) (as_number j)
says slack (shows.name n) j = is_some_with (λ text. bytes_eq text n) (as_str j)
says slack (shows.text bs) j = is_some_with (has_pieces character bs) (as_str j)
says slack (shows.utf8 t) j = is_some_with (λ text. bytes_eq text t) (as_str j)
says slack (shows.wide bs) j = is_some_with (has_pieces character (utf16_lossy_chars (units bs))) (as_str j)
says slack (shows.bytes bs) j = is_some_with (has_pairs bs) (as_str j)
says slack (shows.digits bs) j = is_some_with (has_pieces two_digits bs) (as_str j)
says slack (shows.flags fs) j = is_some_with (λ js. are_among fs (count_items js) js) (as_array j)
