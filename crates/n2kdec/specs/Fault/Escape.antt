-- Control characters of a text for a terminal, as `\x1b`.
use Rattle.std.specs.Prelude.{◌==◌, ◌++◌, ◌∷◌, ◌/◌, ◌%◌, ◌+◌, ◌&&◌, ◌||◌, not, nat_lt, ℕ, Bool, List, []}
use Rattle.std.specs.Prelude.{codes, get_or, if◌then◌else◌}
use Rattle.std.specs.Char.{is_ascii_control}

-- a digit of a number to the base 16
abbrev pub hex_digit : ℕ → ℕ
hex_digit n = if nat_lt n 10 then 48 + n else 87 + n

-- a byte as `\x1b`
abbrev pub escape : ℕ → List ℕ
escape byte = codes "\\x" ++ hex_digit (byte / 16) ∷ hex_digit (byte % 16) ∷ []

-- Whether bytes are of a control character of two, U+0080 to U+009F: the first one is C2.
abbrev pub is_control_of_two : ℕ → ℕ → Bool
is_control_of_two last byte = last == 0xC2 && nat_lt byte 0xA0

-- whether a byte is a control character of ASCII; a line feed is not if line feeds are kept
abbrev pub is_control : Bool → ℕ → Bool
is_control keeps_lines byte = is_ascii_control byte && not (keeps_lines && byte == 10)

-- the text of a byte between these two
abbrev pub shown : Bool → ℕ → ℕ → ℕ → List ℕ
shown keeps_lines last byte next =
    if is_control keeps_lines byte || is_control_of_two last byte || is_control_of_two byte next then escape byte
    else byte ∷ []

-- a text after this byte, with its control characters escaped
abbrev pub escaped_after : Bool → ℕ → List ℕ → List ℕ
escaped_after keeps_lines last [] = []
escaped_after keeps_lines last (byte ∷ text) =
    shown keeps_lines last byte (get_or text 0 0xFF) ++ escaped_after keeps_lines byte text

-- all control characters are; or all but line feeds
abbrev pub escaped : Bool → List ℕ → List ℕ
escaped keeps_lines text = escaped_after keeps_lines 0 text
