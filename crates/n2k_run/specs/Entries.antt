-- The entries of a log, one a line, and their kinds.
use Rattle.std.specs.Prelude.{ℕ, Bool, true, false, List, map}
use Rattle.n2k_wire.specs.declared.entry.Entry.{Entry}
use Rattle.n2k_wire.specs.declared.entry.Entry.TheVariants.{Bad, Frame, Whole}
use Rattle.n2k_wire.specs.declared.entry.Packing.{Packing}
use Rattle.n2k_wire.specs.Entry.{entry}
use Rattle.n2k_run.specs.Lines.{lines}

-- the entry of each line, in order
abbrev pub entries : Packing → List ℕ → List Entry
entries packing log = map (λ line. entry line packing) (lines log)

-- a line that can't be read
abbrev pub is_bad : Entry → Bool
is_bad (Bad cause) = true
is_bad _ = false

-- a line that is a frame, or a whole message
abbrev pub is_packet : Entry → Bool
is_packet (Frame packet) = true
is_packet (Whole packet) = true
is_packet _ = false
