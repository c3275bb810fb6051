-- The plain lines of frames are read as these frames.
use Rattle.std.proofs.Common.{arith, ◌≡◌, ◌≤◌, Bool, cond, List, [], ◌∷◌, length, refl, ap, subst, ◌∙◌, sym, append_assoc, All, flat_map, le-leb}
use Rattle.std.specs.List.{AllByRecursion}
use Rattle.std.proofs.lemmas.List.Elements.{recursion_from_All}
use Rattle.n2k_wire.specs.declared.entry.Entry.{Entry}
use Rattle.n2k_wire.specs.declared.entry.Entry.TheVariants as entries
use Rattle.n2k_wire.specs.declared.entry.Packing.{Packing}
use Rattle.n2k_wire.specs.declared.entry.Packing.TheVariants.{Frames}
use Rattle.n2k_wire.specs.Candump.{frame_payload}
use Rattle.n2k_wire.specs.Entry.{entry, IsEntry}
use Rattle.n2k_wire.specs.Packet.{PacketParts, IsPacketParts}
use Rattle.n2k_wire.specs.Plain.{packed}
use Rattle.n2k_wire.specs.Texts.{plain_line, plain_text}
use Rattle.n2k_table.specs.Json.{json}
use Rattle.n2k_table.specs.OneLine.{IsOneLine}
use Rattle.n2k_table.specs.Table.{TableParts, kind}
use Rattle.n2k_join.specs.Scattered.{as_entries, IsScattered, IsMute, WrittenLog}
use Rattle.n2k_join.specs.Pieces.{written}
use Rattle.n2k_join.specs.Replay.{Replays}
use Rattle.n2k_run.specs.declared.options.Options.{Options}
use Rattle.n2k_run.specs.Entries as logs
use Rattle.n2k_run.specs.Replayed.{PrintsBack}
use Rattle.n2k_run.proofs.OutputLines.{lines_one}
use Rattle.n2k_run.proofs.PrintedBack.{prints_back}

-- the laws of n2k_wire on plain lines
pub record PlainLaws : Type 0 where
  pub one_line : (p : PacketParts) → IsPacketParts p → All (λ b. 32 ≤ b) (plain_line p)
  pub reads_back : (p : PacketParts) (packing : Packing) → IsPacketParts p → entry (plain_line p) packing ≡ packed packing p

small : (p : PacketParts) → length p.payload ≤ frame_payload → packed Frames p ≡ entries.Frame p
small p fits = ap (λ b. cond b (entries.Frame p) (entries.Whole p)) (le-leb (length p.payload) frame_payload fits)

pub texts_entries : PlainLaws → (ps : List PacketParts) → AllByRecursion IsEntry (as_entries ps) → logs.entries Frames (flat_map plain_text ps) ≡ as_entries ps
texts_entries laws [] are = refl
texts_entries laws (p ∷ ps) are = grind (arith, texts_entries laws ps are.1, append_assoc, lines_one)

pub written_back : PlainLaws → (t : TableParts) (ms : List PacketParts) (o : Options) → o.packing ≡ Frames → WrittenLog o.window (kind t) ms → ((es : List Entry) → IsScattered o.window (kind t) ms es → IsMute (kind t) es → Replays o.window (kind t) ms es) → ((m : PacketParts) (empty : Bool) → IsOneLine (json t m empty)) → PrintsBack t ms o (flat_map plain_text (written (kind t) ms))
written_back laws t ms o frames written_log replays one =
    let es = as_entries (written (kind t) ms) in
    let read : logs.entries o.packing (flat_map plain_text (written (kind t) ms)) ≡ es = ap (λ p. logs.entries p (flat_map plain_text (written (kind t) ms))) frames ∙ texts_entries laws (written (kind t) ms) (recursion_from_All IsEntry es written_log.entries) in
    prints_back t ms o (flat_map plain_text (written (kind t) ms)) one (subst (Replays o.window (kind t) ms) (sym read) (replays es written_log.scattered written_log.mute))
