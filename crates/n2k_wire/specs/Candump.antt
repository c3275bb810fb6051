-- Lines of can-utils' `candump -L`: `(seconds.fraction) interface ID#DATA`.
use Rattle.std.specs.Prelude.{ℕ, ◌*◌, not, ◌==◌, ◌&&◌, ◌||◌, nat_lt, nat_le, Bool, true, false, if◌then◌else◌, List, []}
use Rattle.std.specs.Prelude.{◌∷◌, length, take, drop, Option, Some, None, option_map, option_and_then, Result, Ok, Err}
use Rattle.std.specs.Char.{is_ascii_hexdigit}
use Rattle.std.specs.Int.{w32, from_be_bytes}
use Rattle.std.specs.List.{list_all, position_or_len}
use Rattle.std.specs.Result.{result_ok}
use Rattle.hex.specs.Hex.{decode_of}
use Rattle.n2k_wire.specs.declared.entry.BadCause.{BadCause}
use Rattle.n2k_wire.specs.declared.entry.BadCause.TheVariants as causes
use Rattle.n2k_wire.specs.declared.entry.Entry.{Entry}
use Rattle.n2k_wire.specs.declared.entry.Entry.TheVariants as entries
use Rattle.n2k_wire.specs.Identifier.{split}
use Rattle.n2k_wire.specs.Cuts.{cut_at, after_byte, skip_spaces}
use Rattle.n2k_wire.specs.Stamp.{Moment, moment, utc_text}
use Rattle.n2k_wire.specs.Steps.{◌>>=◌, or_cause, some_if}

-- the most bytes of an interface's name
abbrev pub longest_interface : ℕ
longest_interface = 15

-- the most data bytes of a frame
abbrev pub frame_payload : ℕ
frame_payload = 8

-- the name of an interface: 1 to 15 bytes that are printable and no space
abbrev pub is_interface_byte : ℕ → Bool
is_interface_byte b = nat_le 33 b && nat_le b 126

unfoldable pub is_interface : List ℕ → Bool
is_interface name =
    nat_lt 0 (length name) && nat_le (length name) longest_interface && list_all is_interface_byte name

-- the text between the parentheses, and the text after them
unfoldable pub stamped : List ℕ → Option (List ℕ × List ℕ)
stamped line = option_and_then (cut_at 41) (after_byte 40 line)

-- After the stamp: one or more spaces, an interface, one or more spaces, and a text with a `#`. The result is this text
-- before and after its first `#`.
unfoldable pub framed : List ℕ → Option (List ℕ × List ℕ)
framed text =
    option_and_then (λ named. option_and_then (cut_at 35)
    (option_and_then skip_spaces (some_if (is_interface named.0) named.1)))
    (option_and_then (cut_at 32) (option_and_then skip_spaces (after_byte 32 text)))

-- The 29 bits of an extended identifier. None if the frame is skipped: an identifier of 3 digits (11 bits), or an error
-- frame.
abbrev pub of_number : ℕ → Result (Option ℕ) BadCause
of_number n =
    if nat_lt n 0x20000000 then Ok (Some n) else if nat_lt n 0x40000000 then Ok None else Err causes.Identifier

unfoldable pub identifier : List ℕ → Result (Option ℕ) BadCause
identifier digits =
    if not (list_all is_ascii_hexdigit digits) then Err causes.Identifier
    else if length digits == 3 then Ok None
    else if length digits == 8
    then (or_cause causes.Identifier (option_map (from_be_bytes w32) (result_ok (decode_of digits))) >>= of_number)
    else Err causes.Identifier

-- the allowed text after the data: nothing, or a space and any bytes
abbrev pub is_end : List ℕ → Bool
is_end [] = true
is_end (b ∷ rest) = b == 32

-- the text after the data, which may begin with `_` and one digit: `candump` writes this for the length code of a
-- classic frame
unfoldable pub is_ending : List ℕ → Bool
is_ending [] = true
is_ending (b ∷ []) = b == 32
is_ending (b ∷ code ∷ rest) = (b == 32) || ((b == 95) && is_ascii_hexdigit code && is_end rest)

-- how many hexadecimal digits a text begins with
abbrev pub digits_len : List ℕ → ℕ
digits_len text = position_or_len (λ b. not (is_ascii_hexdigit b)) text

-- the data of a frame: 0 to 8 pairs of hexadecimal digits, and an allowed end
unfoldable pub payload : List ℕ → Option (List ℕ)
payload text =
    option_and_then (λ digits. result_ok (decode_of digits))
    (some_if (nat_le (digits_len text) (2 * frame_payload) && is_ending (drop (digits_len text) text))
    (take (digits_len text) text))

-- after the first `#`: an FD frame begins with another `#`, a remote frame with R or r
unfoldable pub is_other_frame : List ℕ → Bool
is_other_frame [] = false
is_other_frame (b ∷ rest) = (b == 35) || (b == 82) || (b == 114)

-- the entry of a frame: Skip without a known identifier or for a frame of another kind
unfoldable pub frame_or_skip : Moment → Option ℕ → List ℕ → Result Entry BadCause
frame_or_skip seen None text = Ok entries.Skip
frame_or_skip seen (Some n) text =
    if is_other_frame text then Ok entries.Skip
    else (or_cause causes.Data (payload text)
    >>= (λ bytes. Ok (entries.Frame (record { stamp = utc_text seen; id = split n; payload = bytes }))))

-- the entry of a candump line, or the first of its causes
unfoldable pub candump : List ℕ → Result Entry BadCause
candump line = do
  outer ← or_cause causes.Stamp (stamped line)
  seen ← or_cause causes.Stamp (moment outer.0)
  inner ← or_cause causes.Form (framed outer.1)
  known ← identifier inner.0
  frame_or_skip seen known inner.1
