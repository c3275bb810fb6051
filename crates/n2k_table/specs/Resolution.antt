-- A resolution as text: 1 to 10 digits, and then nothing or a dot and 1 to 18 digits.
use Rattle.std.specs.Prelude.{ℕ, ◌+◌, Bool, ◌&&◌, ◌==◌, nat_le, codes, List, [], ◌++◌, length, take, drop, position}
use Rattle.std.specs.Prelude.{Option, Some, None, Result, Ok, Err, if◌then◌else◌}
use Rattle.std.specs.Char.{is_ascii_digit}
use Rattle.std.specs.List.{list_all}
use Rattle.std.specs.Option.{ok_or}
use Rattle.std.specs.Str.Parse.{digits_value}
use Rattle.toml.specs.Data.{Data, Members, get_member, as_str}
use Rattle.n2k_table.specs.declared.fault.TableFault.{TableFault}
use Rattle.n2k_table.specs.declared.fault.TableFault.TheVariants.{Key, Range, Text}
use Rattle.n2k_table.specs.declared.resolution.Resolution.{Resolution}
use Rattle.n2k_table.specs.Decimal.{dot}
use Rattle.n2k_wire.specs.Steps.{◌>>=◌}

-- the most digits before the dot
abbrev pub most_whole_digits : ℕ
most_whole_digits = 10

-- the most digits after the dot
abbrev pub most_decimals : ℕ
most_decimals = 18

-- the greatest mantissa, 32 bits
abbrev pub greatest_mantissa : ℕ
greatest_mantissa = 4294967295

-- 1 to most decimal digits
abbrev pub is_digits : ℕ → List ℕ → Bool
is_digits most text = nat_le 1 (length text) && nat_le (length text) most && list_all is_ascii_digit text

-- the digits before the dot and those after it
abbrev pub parts_at : Option ℕ → List ℕ → Result (List ℕ × List ℕ) TableFault
parts_at None text = if is_digits most_whole_digits text then Ok (text, []) else Err Text
parts_at (Some i) text =
    if is_digits most_whole_digits (take i text) && is_digits most_decimals (drop (i + 1) text)
    then Ok (take i text, drop (i + 1) text) else Err Text

abbrev pub parts : List ℕ → Result (List ℕ × List ℕ) TableFault
parts text = parts_at (position (λ b. b == dot) text) text

-- the number that all digits make, and how many stand after the dot
abbrev pub of_parts : List ℕ → List ℕ → Result Resolution TableFault
of_parts whole decimals =
    if nat_le 1 (digits_value 10 (whole ++ decimals)) && nat_le (digits_value 10 (whole ++ decimals)) greatest_mantissa
    then Ok (record { mantissa = digits_value 10 (whole ++ decimals); decimals = length decimals }) else Err Range

unfoldable pub resolution : List ℕ → Result Resolution TableFault
resolution text = do
  p ← parts text
  of_parts p.0 p.1

-- the resolution of a field that has none
abbrev pub one : Resolution
one = record { mantissa = 1; decimals = 0 }

abbrev pub resolution_or_one : Option Data → Result Resolution TableFault
resolution_or_one None = Ok one
resolution_or_one (Some d) = do
  text ← ok_or (as_str d) Key
  resolution text

abbrev pub resolution_at : Members → Result Resolution TableFault
resolution_at ms = resolution_or_one (get_member (codes "resolution") ms)
