-- A log over which messages are scattered prints these messages.
use Rattle.std.proofs.Common.{arith, ◌≡◌, ℕ, Bool, List, [], ◌∷◌, ◌++◌, refl, Option, flat_map, filter_map}
use Rattle.std.proofs.lemmas.List.{length-map}
use Rattle.n2k_wire.specs.declared.entry.Entry.{Entry}
use Rattle.n2k_wire.specs.Packet.{PacketParts}
use Rattle.n2k_table.specs.Json.{json}
use Rattle.n2k_table.specs.OneLine.{IsOneLine}
use Rattle.n2k_table.specs.Table.{TableParts, kind}
use Rattle.n2k_join.specs.Messages.{message, numbers}
use Rattle.n2k_join.specs.Replay.{messages, Replays}
use Rattle.n2k_run.specs.declared.options.Options.{Options}
use Rattle.n2k_run.specs.Decoded.{message_line, out, out_of}
use Rattle.n2k_run.specs.Entries.{entries}
use Rattle.n2k_run.specs.Lines.{lines}
use Rattle.n2k_run.specs.Replayed.{json_lines, with_line_feeds, PrintsBack}
use Rattle.n2k_run.proofs.OutputLines.{lines_of_texts}

-- the texts of lines are the texts of the messages that they give
texts_of_messages : (t : TableParts) (empty : Bool) (gives : ℕ → Option PacketParts) (ns : List ℕ) → flat_map (λ n. message_line t empty (gives n)) ns ≡ flat_map (λ m. json t m empty) (filter_map gives ns)
texts_of_messages t empty gives [] = refl
texts_of_messages t empty gives (n ∷ ns) = grind (arith, texts_of_messages t empty gives ns)

-- the output lines of entries are the JSON lines of their messages
pub out_of-lines : (t : TableParts) (o : Options) (es : List Entry) → ((m : PacketParts) (empty : Bool) → IsOneLine (json t m empty)) → with_line_feeds (lines (out_of t o es)) ≡ json_lines t o (messages o.window (kind t) es)
out_of-lines t o es one = grind (arith, texts_of_messages t o.empty (message o.window (kind t) es) (numbers es), lines_of_texts (λ m. json t m o.empty) (λ m. one m o.empty) (messages o.window (kind t) es))

out-lines : (t : TableParts) (o : Options) (log : List ℕ) → ((m : PacketParts) (empty : Bool) → IsOneLine (json t m empty)) → with_line_feeds (lines (out t o log)) ≡ json_lines t o (messages o.window (kind t) (entries o.packing log))
unfolding out
out-lines t o log one = out_of-lines t o (entries o.packing log) one

pub prints_back : (t : TableParts) (ms : List PacketParts) (o : Options) (log : List ℕ) → ((m : PacketParts) (empty : Bool) → IsOneLine (json t m empty)) → Replays o.window (kind t) ms (entries o.packing log) → PrintsBack t ms o log
prints_back t ms o log one replays = grind (arith, out-lines t o log one, length-map (lines (out t o log)) (λ text. text ++ 10 ∷ []), length-map (messages o.window (kind t) (entries o.packing log)) (λ m. json t m o.empty))
