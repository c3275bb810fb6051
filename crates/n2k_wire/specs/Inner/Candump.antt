-- A candump line as the code reads it.
use Rattle.std.specs.Prelude.{◌≡◌, ℕ, List, ◌∷◌, ◌++◌, Option, Some, None, option_and_then, Ok}
use Rattle.n2k_wire.specs.declared.candump.CandumpFrame.{CandumpFrame}
use Rattle.n2k_wire.specs.declared.entry.Entry.{Entry}
use Rattle.n2k_wire.specs.declared.entry.Entry.TheVariants as entries
use Rattle.n2k_wire.specs.Candump.{stamped, framed, identifier}
use Rattle.n2k_wire.specs.Digits.{decimal_number}
use Rattle.n2k_wire.specs.Stamp.{most_fraction_digits, moment, three_digits, utc_text}

-- the frame of a candump line as its entry; None is a line to skip
abbrev pub candump_entry : Option CandumpFrame → Entry
candump_entry None = entries.Skip
candump_entry (Some frame) = entries.Frame (record { stamp = frame.stamp; id = frame.id; payload = frame.«data».items })

-- the UTC text of a candump line's stamp, and the text after the stamp
unfoldable pub stamp_after : List ℕ → Option (List ℕ × List ℕ)
stamp_after line =
    option_and_then (λ outer. option_and_then (λ seen. Some (utc_text seen, outer.1)) (moment outer.0)) (stamped line)

-- a line that begins with `prefix`, a fraction and the closing parenthesis is of this second
abbrev pub IsSecondPrefix : List ℕ → ℕ → Type 0
IsSecondPrefix prefix seconds =
    (fraction rest : List ℕ) (f m : ℕ) → decimal_number most_fraction_digits fraction ≡ Some f
    → decimal_number 3 (three_digits fraction) ≡ Some m
    → stamp_after (prefix ++ (fraction ++ (41 ∷ rest)))
    ≡ Some (utc_text (record { seconds = seconds; millis = m }), rest)

-- the digits of this identifier come after an interface, and the rest after the `#`
abbrev pub IsFramed : List ℕ → ℕ → List ℕ → Type 0
IsFramed text n rest = (digits : List ℕ) × (framed text ≡ Some (digits, rest)) × (identifier digits ≡ Ok (Some n))
