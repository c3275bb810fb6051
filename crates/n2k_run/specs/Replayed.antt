-- The output of a log over which messages are scattered.
use Rattle.std.specs.Prelude.{◌≡◌, ℕ, List, [], ◌∷◌, ◌++◌, map, length}
use Rattle.n2k_wire.specs.Packet.{PacketParts}
use Rattle.n2k_table.specs.Json.{json}
use Rattle.n2k_table.specs.Table.{TableParts, kind}
use Rattle.n2k_join.specs.Frames.{Key}
use Rattle.n2k_join.specs.Messages.{Keyed}
use Rattle.n2k_join.specs.Replay.{gathered_messages, given_to, sent_to}
use Rattle.n2k_run.specs.declared.options.Options.{Options}
use Rattle.n2k_run.specs.Decoded.{out}
use Rattle.n2k_run.specs.Entries.{entries}
use Rattle.n2k_run.specs.Lines.{lines}

-- the JSON lines of messages
abbrev pub json_lines : TableParts → Options → List PacketParts → List (List ℕ)
json_lines t o ms = map (λ m. json t m o.empty) ms

-- lines with their line feeds
abbrev pub with_line_feeds : List (List ℕ) → List (List ℕ)
with_line_feeds texts = map (λ text. text ++ 10 ∷ []) texts

-- The messages are printed back: the output has one line a message, the JSON lines of the messages that the log's
-- groups give, in the order of the log's lines; the lines of each key are the JSON lines of that key's messages, in
-- their order.
pub record PrintsBack (t : TableParts) (ms : List PacketParts) (o : Options) (log : List ℕ) : Type 0 where
  pub as_many : length (lines (out t o log)) ≡ length ms
  pub gathered : with_line_feeds (lines (out t o log)) ≡ json_lines t o
      (map (λ (m : Keyed). m.message) (gathered_messages o.window (kind t) (entries o.packing log)))
  pub in_order : (key : Key) → json_lines t o (given_to key o.window (kind t) (entries o.packing log))
      ≡ json_lines t o (sent_to key ms)
