-- Messages that are sent in order, each by the sequences of the messages before.
use Rattle.std.specs.Prelude.{◌≡◌, ◌≤◌, ◌+◌, ℕ, if◌then◌else◌, List, [], ◌++◌, Option, Some, None, Result, Ok}
use Rattle.std.specs.Option.{is_none}
use Rattle.n2k_wire.specs.declared.entry.BadCause.{BadCause}
use Rattle.n2k_wire.specs.declared.entry.Entry.{Entry}
use Rattle.n2k_wire.specs.declared.entry.Entry.TheVariants as lines
use Rattle.n2k_wire.specs.declared.fault.WireFault.{WireFault}
use Rattle.n2k_wire.specs.Heads.{line_after}
use Rattle.n2k_wire.specs.Packet.{PacketParts}
use Rattle.n2k_wire.specs.Texts.{candump_text, plain_text}
use Rattle.n2k_table.specs.declared.definition.Kind.{Kind}
use Rattle.n2k_join.specs.declared.counts.Counts.{Counts}
use Rattle.n2k_join.specs.Counts.{most_lines}
use Rattle.n2k_join.specs.Pieces.{Sequences, pieces_by, raised, stream_of}
use Rattle.n2k_join.specs.Splitter.{refusal}
use Rattle.n2k_run.specs.declared.frames.Outcome.{Outcome}
use Rattle.n2k_run.specs.declared.frames.Outcome.TheVariants.{Skipped, Written, Bad}
use Rattle.n2k_run.specs.FramesOut.{frame_texts, is_refused, is_written, line_cause, message_cause}
use Rattle.n2k_run.specs.Fold.{Fold}
use Rattle.n2k_run.specs.Reports.{cause_report}

-- the state after the lines before: the sequence of each stream's next message, and the counts
pub record Sent : Type 0 where
  pub held : Sequences
  pub counts : Counts

-- each count that rises is at most that of the lines
pub record AreFrameCounts (c : Counts) : Type 0 where
  pub few : c.lines ≤ most_lines
  pub messages : c.messages ≤ c.lines
  pub bad : c.bad ≤ c.lines

-- the line of a frame, a plain one or the one that candump writes
abbrev pub frame_line : Option (List ℕ) → PacketParts → Result (List ℕ) WireFault
frame_line None frame = Ok (plain_text frame)
frame_line (Some interface) frame = candump_text interface frame

-- a head begins the lines of a message's frames, which differ in their data alone
abbrev pub BeginsLines : Option (List ℕ) → PacketParts → List ℕ → Type 0
BeginsLines interface m head =
    (payload : List ℕ) → frame_line interface (record m { payload = payload }) ≡ Ok (line_after head payload)

-- the outcome of a message, by why it isn't written
abbrev pub outcome_by : Option BadCause → Outcome
outcome_by None = Written
outcome_by (Some cause) = Bad cause

abbrev pub outcome : (ℕ → Option Kind) → Option (List ℕ) → Entry → Outcome
outcome kind interface lines.Skip = Skipped
outcome kind interface (lines.Bad cause) = Bad cause
outcome kind interface (lines.Frame packet) = outcome_by (line_cause kind interface (lines.Frame packet))
outcome kind interface (lines.Whole packet) = outcome_by (message_cause kind interface packet)

-- the text of a message
abbrev pub message_text : (ℕ → Option Kind) → Option (List ℕ) → Sequences → PacketParts → List ℕ
message_text kind interface held m =
    if is_none (message_cause kind interface m)
    then frame_texts interface (pieces_by kind m (held (stream_of m.id)))
    else []

-- the sequences after the message: it takes one if it is split
abbrev pub held_after_message : (ℕ → Option Kind) → Sequences → PacketParts → Sequences
held_after_message kind held m = if is_none (refusal (kind m.id.pgn) m) then raised kind held (stream_of m.id) else held

-- the text of a line
abbrev pub line_text : (ℕ → Option Kind) → Option (List ℕ) → Sequences → Entry → List ℕ
line_text kind interface held lines.Skip = []
line_text kind interface held (lines.Bad cause) = []
line_text kind interface held (lines.Frame packet) = []
line_text kind interface held (lines.Whole packet) = message_text kind interface held packet

abbrev pub held_after : (ℕ → Option Kind) → Sequences → Entry → Sequences
held_after kind held lines.Skip = held
held_after kind held (lines.Bad cause) = held
held_after kind held (lines.Frame packet) = held
held_after kind held (lines.Whole packet) = held_after_message kind held packet

-- a message was sent
pub record SentMessage (kind : ℕ → Option Kind) (interface : Option (List ℕ)) (m : PacketParts)
    (held held' : Sequences) (text text' : List ℕ) (made : Outcome) : Type 0 where
  pub made_is : made ≡ outcome_by (message_cause kind interface m)
  pub held_is : held' ≡ held_after_message kind held m
  pub text_is : text' ≡ text ++ message_text kind interface held m

-- a line was taken
pub record SentLine (kind : ℕ → Option Kind) (interface : Option (List ℕ)) (e : Entry) (held held' : Sequences)
    (text text' : List ℕ) (made : Outcome) : Type 0 where
  pub made_is : made ≡ outcome kind interface e
  pub held_is : held' ≡ held_after kind held e
  pub text_is : text' ≡ text ++ line_text kind interface held e

-- the counts with one more line
abbrev pub frame_counts_after : (ℕ → Option Kind) → Option (List ℕ) → Counts → Entry → Counts
frame_counts_after kind interface c e = record c {
  lines = c.lines + 1;
  messages = c.messages + (if is_written kind interface e then 1 else 0);
  bad = c.bad + (if is_refused kind interface e then 1 else 0);
}

-- each line gives the lines of its message's frames, and a report if it is bad
abbrev pub sending_fold : (ℕ → Option Kind) → Option (List ℕ) → Fold Sent
sending_fold kind interface = record {
  text = λ s e. line_text kind interface s.held e;
  report = λ s e. cause_report (s.counts.lines + 1) (line_cause kind interface e);
  after = λ s e. record { held = held_after kind s.held e; counts = frame_counts_after kind interface s.counts e };
  lines = λ s. s.counts.lines;
}
