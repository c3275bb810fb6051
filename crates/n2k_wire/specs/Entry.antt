-- The entry of a line of a log: skipped, bad for one cause, a frame, or a whole message.
use Rattle.std.specs.Prelude.{ℕ, ◌≤◌, ◌==◌, nat_lt, Bool, true, false, if◌then◌else◌, List, [], ◌∷◌, length, Result, Ok}
use Rattle.std.specs.Prelude.{Err}
use Rattle.n2k_wire.specs.declared.entry.BadCause.{BadCause}
use Rattle.n2k_wire.specs.declared.entry.BadCause.TheVariants as causes
use Rattle.n2k_wire.specs.declared.entry.Entry.{Entry}
use Rattle.n2k_wire.specs.declared.entry.Entry.TheVariants as entries
use Rattle.n2k_wire.specs.declared.entry.Packing.{Packing}
use Rattle.n2k_wire.specs.Candump.{frame_payload, candump}
use Rattle.n2k_wire.specs.Packet.{IsPacketParts}
use Rattle.n2k_wire.specs.Plain.{plain}

-- the most bytes of a line, comments among them
abbrev pub longest_line : ℕ
longest_line = 2048

-- an empty line, or one that begins with `#`
abbrev pub is_skipped : List ℕ → Bool
is_skipped [] = true
is_skipped (b ∷ rest) = b == 35

-- a candump line begins with `(`
abbrev pub is_candump : List ℕ → Bool
is_candump [] = false
is_candump (b ∷ rest) = b == 40

-- a reading as an entry
abbrev pub settled : Result Entry BadCause → Entry
settled (Ok e) = e
settled (Err cause) = entries.Bad cause

-- entry: the result of reading a line, without its LF and CR
unfoldable pub entry : List ℕ → Packing → Entry
entry line packing =
    if nat_lt longest_line (length line) then entries.Bad causes.Long
    else if is_skipped line then entries.Skip
    else if is_candump line then settled (candump line)
    else settled (plain packing line)

-- a frame has at most 8 data bytes
abbrev pub IsShort : Entry → Type 0
IsShort entries.Skip = Unit {0}
IsShort (entries.Bad cause) = Unit {0}
IsShort (entries.Frame packet) = length packet.payload ≤ frame_payload
IsShort (entries.Whole packet) = Unit {0}

-- The possible entries of lines: the parts of a packet are valid, and a frame has at most 8 data bytes. Reading a line
-- promises it, and a join's state stays valid under such entries.
abbrev pub IsEntry : Entry → Type 0
IsEntry entries.Skip = Unit {0}
IsEntry (entries.Bad cause) = Unit {0}
IsEntry (entries.Frame packet) = IsPacketParts packet × length packet.payload ≤ frame_payload
IsEntry (entries.Whole packet) = IsPacketParts packet
