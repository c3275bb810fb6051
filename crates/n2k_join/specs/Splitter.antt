-- The state of a splitter, and why it refuses a message.
use Rattle.std.specs.Prelude.{ℕ, List, Option, Some, None, unwrap_or, length, nat_le, if◌then◌else◌}
use Rattle.std.specs.Map.{lookup}
use Rattle.n2k_wire.specs.Packet.{PacketParts}
use Rattle.n2k_wire.specs.Candump.{frame_payload}
use Rattle.n2k_table.specs.declared.definition.Kind.{Kind}
use Rattle.n2k_table.specs.declared.definition.Kind.TheVariants.{Single, Fast}
use Rattle.n2k_join.specs.declared.fault.SplitFault.{SplitFault}
use Rattle.n2k_join.specs.declared.fault.SplitFault.TheVariants.{Unknown, TooLong}
use Rattle.n2k_join.specs.Pieces.{Stream, same_stream, Sequences}

-- The sequences that a splitter holds, by streams: 0 for a stream without one.
abbrev pub sequences : List (Stream × ℕ) → Sequences
sequences held stream = unwrap_or (lookup (same_stream stream) held) 0

-- Why a message whose PGN is of this kind is refused: its kind is unknown, or it is too long for the one frame of a
-- single PGN.
abbrev pub refusal : Option Kind → PacketParts → Option SplitFault
refusal None m = Some Unknown
refusal (Some Single) m = if nat_le (length m.payload) frame_payload then None else Some TooLong
refusal (Some Fast) m = None
