-- The output in order, for a log recorded on the bus: each line is of a message that is alone in its line, or of a
-- message whose frames the log has by rising number, without others of their key between.
use Rattle.std.specs.Prelude.{◌≡◌, ◌⊎◌, ℕ, true, List, [], ◌∷◌, ◌++◌, All, Some}
use Rattle.std.specs.Io.KnownBytes.{Appends}
use Rattle.n2k_wire.specs.declared.entry.Entry.{Entry}
use Rattle.n2k_wire.specs.Packet.{PacketParts}
use Rattle.n2k_table.specs.Json.{json}
use Rattle.n2k_table.specs.Table.{TableParts, kind}
use Rattle.n2k_join.specs.Frames.{Key, Frame, frames}
use Rattle.n2k_join.specs.Groups.{complete}
use Rattle.n2k_join.specs.Messages.{alone, entry_at, message_of}
use Rattle.n2k_join.specs.Consecutive.{AreConsecutive}
use Rattle.n2k_run.specs.declared.options.Options.{Options}
use Rattle.n2k_run.specs.Lines.{line_feed, lines}
use Rattle.n2k_run.specs.Runs.{Devices}

-- The message is a line of the log by itself: a frame of a PGN that is sent in single frames, or a whole message.
pub record ComesAlone (t : TableParts) (es : List Entry) (m : PacketParts) : Type 0 where
  pub line : ℕ
  pub entry : Entry
  pub stands : entry_at es line ≡ Some entry
  pub is : alone (kind t) entry ≡ Some m

-- The message is made of these frames: the log has them by rising number, from 0 to the last that its length needs,
-- with no other frame of their key between them; it has their data, with the stamp, the priority and the identifier of
-- the last.
pub record ComesInOrder (t : TableParts) (es : List Entry) (m : PacketParts) : Type 0 where
  pub key : Key
  pub before_last : List Frame
  pub last : Frame
  pub in_order : AreConsecutive key (frames (kind t) es) (before_last ++ last ∷ [])
  pub whole : complete (before_last ++ last ∷ []) ≡ true
  pub is : m ≡ message_of last (before_last ++ last ∷ [])

-- a line of the output, with its line feed, is the JSON line of a message that comes alone or in order
pub record TellsOne (t : TableParts) (o : Options) (es : List Entry) (line : List ℕ) : Type 0 where
  pub message : PacketParts
  pub printed : line ++ line_feed ∷ [] ≡ json t message o.empty
  pub comes : ComesAlone t es message ⊎ ComesInOrder t es message

-- each line of a text is the JSON line of a message that comes alone or in order
abbrev pub EachTellsOne : TableParts → Options → List Entry → List ℕ → Type 0
EachTellsOne t o es text = All (TellsOne t o es) (lines text)

-- the sink of the texts gained a text in order
pub record PrintsInOrder (t : TableParts) (o : Options) (es : List Entry) (before after : Devices) : Type 0 where
  pub text : List ℕ
  pub gained : Appends before.written after.written text
  pub each_line : EachTellsOne t o es text
