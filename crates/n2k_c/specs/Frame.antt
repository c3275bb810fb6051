-- A CAN frame that comes without text.
use Rattle.std.specs.Prelude.{◌/◌, ◌++◌, ◌&&◌, nat_lt, nat_le, ℕ, Bool, List, codes, length}
use Rattle.n2k_wire.specs.Candump.{frame_payload}
use Rattle.n2k_wire.specs.Stamp.{last_second}
use Rattle.n2k_wire.specs.Texts.{candump_line}

-- an identifier of 29 bits, at most 8 bytes of data, and a time up to the end of the year 9999
abbrev pub is_frame : ℕ → List ℕ → ℕ → ℕ → Bool
is_frame identifier payload seconds nanoseconds =
    nat_lt identifier 0x20000000 && nat_le (length payload) frame_payload && nat_le seconds last_second
    && nat_lt nanoseconds 1000000000

-- Its line in a candump log, with its LF. A decoder reads times to the millisecond.
abbrev pub frame_line : ℕ → List ℕ → ℕ → ℕ → List ℕ
frame_line identifier payload seconds nanoseconds =
    candump_line (codes "can0") (record { seconds = seconds; millis = nanoseconds / 1000000 }) identifier payload
    ++ codes "\n"
