-- The output, reports and counts of `frames` for a log: each whole message as the lines of its frames.
use Rattle.std.specs.Prelude.{ℕ, Bool, false, if◌then◌else◌, List, [], length, count_by, Option, Some, None, Result, Ok}
use Rattle.std.specs.Prelude.{Err, IfSome, IsTrue}
use Rattle.std.specs.Borrow.{Bor}
use Rattle.std.specs.List.{flat_map, filter_map, enumerate_from}
use Rattle.std.specs.Option.{is_none, is_some, option_map, option_or, unwrap_or}
use Rattle.std.specs.Result.{result_ok}
use Rattle.n2k_wire.specs.declared.entry.BadCause.{BadCause}
use Rattle.n2k_wire.specs.declared.entry.BadCause.TheVariants as causes
use Rattle.n2k_wire.specs.declared.entry.Entry.{Entry}
use Rattle.n2k_wire.specs.declared.entry.Entry.TheVariants as lines
use Rattle.n2k_wire.specs.declared.entry.Packing.TheVariants as packings
use Rattle.n2k_wire.specs.declared.fault.WireFault.{WireFault}
use Rattle.n2k_wire.specs.declared.fault.WireFault.TheVariants as refused
use Rattle.n2k_wire.specs.Candump.{is_interface}
use Rattle.n2k_wire.specs.Packet.{PacketParts}
use Rattle.n2k_wire.specs.Texts.{plain_text, candump_parts, candump_text}
use Rattle.n2k_table.specs.declared.definition.Kind.{Kind}
use Rattle.n2k_table.specs.Table.{TableParts, kind}
use Rattle.n2k_join.specs.declared.counts.Counts.{Counts}
use Rattle.n2k_join.specs.declared.fault.SplitFault.{SplitFault}
use Rattle.n2k_join.specs.declared.fault.SplitFault.TheVariants as unsplit
use Rattle.n2k_join.specs.Pieces.{Sending, sendings, frames_of_sending}
use Rattle.n2k_join.specs.Splitter.{refusal}
use Rattle.n2k_run.specs.Entries.{entries}
use Rattle.n2k_run.specs.Reports.{cause_report}
use Rattle.n2k_run.specs.Runs.{Output}

-- the name of the interface at which the frames are seen, if one is given
abbrev pub interface_of : Option (Bor (List ℕ)) → Option (List ℕ)
interface_of handed = option_map (λ (name : Bor (List ℕ)). name.now) handed

-- the name of an interface has the form of one
abbrev pub IsInterface : Option (List ℕ) → Type 0
IsInterface interface = IfSome interface (λ name. IsTrue (is_interface name))

-- why a message isn't split; refused memory is not the cause of a bad line
abbrev pub split_cause : Option SplitFault → Option BadCause
split_cause None = None
split_cause (Some unsplit.Unknown) = Some causes.Unknown
split_cause (Some unsplit.TooLong) = Some causes.Size
split_cause (Some unsplit.Memory) = None

-- why candump has no line for a packet
abbrev pub fault_cause : WireFault → Option BadCause
fault_cause refused.NoStamp = Some causes.Time
fault_cause refused.NoId = Some causes.Address
fault_cause refused.Memory = None

abbrev pub candump_cause : {A : Type 0} → Result A WireFault → Option BadCause
candump_cause (Ok parts) = None
candump_cause (Err fault) = fault_cause fault

-- why a message isn't seen at an interface: all its frames have its stamp and its identifier. A plain line needs no
-- more than a message has.
abbrev pub interface_cause : Option (List ℕ) → PacketParts → Option BadCause
interface_cause None m = None
interface_cause (Some interface) m = candump_cause (candump_parts m)

-- why a message isn't written: it isn't split, or else it isn't seen at the interface
abbrev pub message_cause : (ℕ → Option Kind) → Option (List ℕ) → PacketParts → Option BadCause
message_cause kind interface m = option_or (split_cause (refusal (kind m.id.pgn) m)) (interface_cause interface m)

-- why a line is bad; a frame is bad because a message is required
abbrev pub line_cause : (ℕ → Option Kind) → Option (List ℕ) → Entry → Option BadCause
line_cause kind interface lines.Skip = None
line_cause kind interface (lines.Bad cause) = Some cause
line_cause kind interface (lines.Frame packet) = Some causes.Frame
line_cause kind interface (lines.Whole packet) = message_cause kind interface packet

-- the message of a line, if it is split: a message of a fast PGN then takes a sequence
abbrev pub split_message : (ℕ → Option Kind) → Entry → Option PacketParts
split_message kind lines.Skip = None
split_message kind (lines.Bad cause) = None
split_message kind (lines.Frame packet) = None
split_message kind (lines.Whole packet) = if is_none (refusal (kind packet.id.pgn) packet) then Some packet else None

abbrev pub split_messages : (ℕ → Option Kind) → List Entry → List PacketParts
split_messages kind es = filter_map (split_message kind) es

-- the line of a frame: a plain one, or the one that candump writes of it at the interface
abbrev pub frame_text : Option (List ℕ) → PacketParts → List ℕ
frame_text None frame = plain_text frame
frame_text (Some interface) frame = unwrap_or (result_ok (candump_text interface frame)) []

abbrev pub frame_texts : Option (List ℕ) → List PacketParts → List ℕ
frame_texts interface frames = flat_map (frame_text interface) frames

-- The text of a message under its sequence: the lines of all its frames, or none if it isn't seen at the interface. It
-- uses its sequence in either case.
abbrev pub sending_text : (ℕ → Option Kind) → Option (List ℕ) → Sending → List ℕ
sending_text kind interface x =
    if is_none (interface_cause interface x.message) then frame_texts interface (frames_of_sending kind x) else []

-- the lines of the frames of a log's messages, each message under the number of earlier ones of its stream modulo 8
abbrev pub frame_lines : (ℕ → Option Kind) → Option (List ℕ) → List Entry → List ℕ
frame_lines kind interface es = flat_map (sending_text kind interface) (sendings (split_messages kind es))

-- a report for each bad line
abbrev pub frame_reports_from : ℕ → (ℕ → Option Kind) → Option (List ℕ) → List Entry → List ℕ
frame_reports_from first kind interface es =
    flat_map (λ numbered. cause_report numbered.0 (line_cause kind interface numbered.1)) (enumerate_from first es)

-- a line that is a message, and is written
abbrev pub is_written : (ℕ → Option Kind) → Option (List ℕ) → Entry → Bool
is_written kind interface lines.Skip = false
is_written kind interface (lines.Bad cause) = false
is_written kind interface (lines.Frame packet) = false
is_written kind interface (lines.Whole packet) = is_none (message_cause kind interface packet)

-- a line that has a cause
abbrev pub is_refused : (ℕ → Option Kind) → Option (List ℕ) → Entry → Bool
is_refused kind interface e = is_some (line_cause kind interface e)

-- Lines, written messages, and bad lines. An unknown PGN makes a bad line, and there are no groups.
abbrev pub frame_counts_of : (ℕ → Option Kind) → Option (List ℕ) → List Entry → Counts
frame_counts_of kind interface es = record {
  lines = length es;
  messages = count_by (is_written kind interface) es;
  bad = count_by (is_refused kind interface) es;
  unknown = 0;
  broken = 0;
  held = 0;
}

abbrev pub frames_output : TableParts → Option (List ℕ) → Output
frames_output t interface = record {
  packing = packings.Whole;
  counted = 0;
  texts = frame_lines (kind t) interface;
  reports = frame_reports_from 1 (kind t) interface;
}

-- the output, reports and counts of `frames` for a log's bytes
abbrev pub frames_out : TableParts → Option (List ℕ) → List ℕ → List ℕ
frames_out t interface log = frame_lines (kind t) interface (entries packings.Whole log)

abbrev pub frames_reports : TableParts → Option (List ℕ) → List ℕ → List ℕ
frames_reports t interface log = frame_reports_from 1 (kind t) interface (entries packings.Whole log)

abbrev pub frames_counts : TableParts → Option (List ℕ) → List ℕ → Counts
frames_counts t interface log = frame_counts_of (kind t) interface (entries packings.Whole log)
