-- A run that sends messages has the output of the whole log.
use Rattle.std.proofs.Common.{◌≡◌, ◌+◌, ◌<◌, ℕ, false, cond, List, [], ◌∷◌, ◌++◌, length, refl, sym, ap, ◌∙◌, append_assoc, arith, Option, Some, None, count_by, if◌then◌else◌}
use Rattle.std.specs.List.{cons_option, flat_map}
use Rattle.std.specs.Option.{is_none, option_or}
use Rattle.std.proofs.lemmas.List.{append-nil, append_cancel_left}
use Rattle.std.proofs.lemmas.List.Concat.{flat_map-append}
use Rattle.n2k_wire.specs.declared.entry.BadCause.{BadCause}
use Rattle.n2k_wire.specs.declared.entry.Entry.{Entry}
use Rattle.n2k_wire.specs.declared.entry.Entry.TheVariants as lines
use Rattle.n2k_wire.specs.declared.entry.Packing.TheVariants.{Whole}
use Rattle.n2k_wire.specs.Packet.{PacketParts}
use Rattle.n2k_table.specs.declared.definition.Kind.{Kind}
use Rattle.n2k_table.specs.Table.{TableParts, kind}
use Rattle.n2k_join.specs.declared.counts.Counts.{Counts}
use Rattle.n2k_join.specs.declared.fault.SplitFault.{SplitFault}
use Rattle.n2k_join.specs.declared.fault.SplitFault.TheVariants as unsplit
use Rattle.n2k_join.specs.Counts.{most_lines}
use Rattle.n2k_join.specs.Pieces.{Sequences, first_sequences, frames_of_sending, pieces_by, raised, sendings, sendings_after, sequence_after, split_all, split_from, stream_of, written}
use Rattle.n2k_join.specs.Splitter.{refusal}
use Rattle.n2k_run.proofs.Counting.{one_more}
use Rattle.n2k_run.specs.declared.frames.Outcome.TheVariants.{Bad}
use Rattle.n2k_run.specs.FramesOut.{frame_counts_of, frame_lines, frame_reports_from, frame_texts, frames_output, interface_cause, is_refused, is_written, line_cause, sending_text, split_cause, split_messages}
use Rattle.n2k_run.specs.Fold.{after_all, texts_from, reports_from}
use Rattle.n2k_run.specs.Reports.{cause_report}
use Rattle.n2k_run.specs.Runs.{output_from}
use Rattle.n2k_run.specs.Inner.Engine.{MovesOn}
use Rattle.n2k_run.specs.Inner.Sending.{Sent, frame_counts_after, held_after, line_text, outcome, sending_fold}

-- a refusal by PGN or length is not about memory
refusal_by : (k : Option Kind) (m : PacketParts) → refusal k m ≡ Some unsplit.Memory → ⊥
refusal_by k m e = grind arith

counts_are : (l m b l' m' b' : ℕ) → l ≡ l' → m ≡ m' → b ≡ b' → (c : Counts) → record c { lines = l; messages = m; bad = b } ≡ record c { lines = l'; messages = m'; bad = b' }
counts_are l m b l' m' b' p q r c = rw (p, q, r) refl

module _ (kind : ℕ → Option Kind) (interface : Option (List ℕ)) where
  -- a line was taken
  pub moves : (s : Sent) (held' : Sequences) (m b : ℕ) (e : Entry) (t t' r r' : List ℕ) → held' ≡ held_after kind s.held e → m ≡ s.counts.messages + (if is_written kind interface e then 1 else 0) → b ≡ s.counts.bad + (if is_refused kind interface e then 1 else 0)
      → t' ≡ t ++ line_text kind interface s.held e → r' ≡ r ++ cause_report (s.counts.lines + 1) (line_cause kind interface e) → s.counts.lines < most_lines
      → MovesOn (sending_fold kind interface) s (record { held = held'; counts = record s.counts { lines = s.counts.lines + 1; messages = m; bad = b } }) e t t' r r'
  moves s held' m b e t t' r r' held messages bad text report few = grind arith

  -- a bad line has that cause, and isn't sent
  record IsBadLine (e : Entry) (cause : BadCause) : Type 0 where
    cause_is : line_cause kind interface e ≡ Some cause
    not_sent : is_written kind interface e ≡ false

  bad_line : (e : Entry) (cause : BadCause) → outcome kind interface e ≡ Bad cause → IsBadLine e cause
  bad_line e cause is = grind arith

  -- a bad line was taken
  pub moves_bad : (s : Sent) (held' : Sequences) (e : Entry) (cause : BadCause) (t t' r r' : List ℕ) → outcome kind interface e ≡ Bad cause → held' ≡ held_after kind s.held e
      → t' ≡ t ++ line_text kind interface s.held e → r' ≡ r ++ cause_report (s.counts.lines + 1) (Some cause) → s.counts.lines < most_lines
      → MovesOn (sending_fold kind interface) s (record { held = held'; counts = record s.counts { lines = s.counts.lines + 1; messages = s.counts.messages; bad = s.counts.bad + 1 } }) e t t' r r'
  moves_bad s held' e cause t t' r r' is held text report few = grind arith

  -- the sequences that messages lead to
  abbrev pub held_by : Sequences → List PacketParts → Sequences
  held_by held [] = held
  held_by held (m ∷ ms) = held_by (raised kind held (stream_of m.id)) ms

  held_by-push : (held : Sequences) (ms : List PacketParts) (m : PacketParts) → held_by held (ms ++ m ∷ []) ≡ raised kind (held_by held ms) (stream_of m.id)
  held_by-push held [] m = refl
  held_by-push held (e ∷ ms) m = held_by-push (raised kind held (stream_of e.id)) ms m

  split-push : (held : Sequences) (ms : List PacketParts) (m : PacketParts) → split_from kind held (ms ++ m ∷ []) ≡ split_from kind held ms ++ (pieces_by kind m (held_by held ms (stream_of m.id)) ++ [])
  unfolding split_from
  split-push held [] m = refl
  split-push held (e ∷ ms) m = grind (arith, split-push (raised kind held (stream_of e.id)) ms m, append_assoc)

  sendings-push : (earlier ms : List PacketParts) (m : PacketParts) → sendings_after earlier (ms ++ m ∷ []) ≡ sendings_after earlier ms ++ sendings_after (earlier ++ ms) (m ∷ [])
  sendings-push earlier [] m = ap (λ prefix. sendings_after prefix (m ∷ [])) (sym (append-nil earlier))
  sendings-push earlier (e ∷ ms) m = grind (arith, sendings-push (earlier ++ e ∷ []) ms m, append_assoc)

  module _ (law : (ms : List PacketParts) → split_all kind ms ≡ written kind ms) where
    -- a message's frames have the number of earlier messages of its stream
    pieces_same : (ms : List PacketParts) (m : PacketParts) → pieces_by kind m (held_by first_sequences ms (stream_of m.id)) ≡ pieces_by kind m (sequence_after ms m)
    pieces_same ms m = grind (arith, sendings-push [] ms m, flat_map-append (frames_of_sending kind) (sendings ms) (sendings_after ms (m ∷ [])), split-push first_sequences ms m, append-nil (pieces_by kind m (held_by first_sequences ms (stream_of m.id))), append-nil (pieces_by kind m (sequence_after ms m)), append_cancel_left)

    -- after these messages
    abbrev stood : List PacketParts → Counts → Sent
    stood earlier c = record { held = held_by first_sequences earlier; counts = c }

    -- a message, whether it is split or refused
    texts_whole : (earlier : List PacketParts) (c : Counts) (m : PacketParts) (es : List Entry) → ((prefix : List PacketParts) → texts_from (sending_fold kind interface) (stood prefix c) es ≡ flat_map (sending_text kind interface) (sendings_after prefix (split_messages kind es)))
        → (refused : Option SplitFault) → (refused ≡ Some unsplit.Memory → ⊥)
        → cond (is_none (option_or (split_cause refused) (interface_cause interface m))) (frame_texts interface (pieces_by kind m (held_by first_sequences earlier (stream_of m.id)))) [] ++ texts_from (sending_fold kind interface) (record { held = cond (is_none refused) (raised kind (held_by first_sequences earlier) (stream_of m.id)) (held_by first_sequences earlier); counts = c }) es
        ≡ flat_map (sending_text kind interface) (sendings_after earlier (cons_option (cond (is_none refused) (Some m) None) (split_messages kind es)))
    texts_whole earlier c m es rest refused never = grind (arith, pieces_same, held_by-push)

    texts_after : (earlier : List PacketParts) (c : Counts) (es : List Entry) → texts_from (sending_fold kind interface) (stood earlier c) es ≡ flat_map (sending_text kind interface) (sendings_after earlier (split_messages kind es))
    texts_after earlier c [] = refl
    texts_after earlier c (lines.Skip ∷ es) = texts_after earlier (frame_counts_after kind interface c lines.Skip) es
    texts_after earlier c (lines.Bad cause ∷ es) = texts_after earlier (frame_counts_after kind interface c (lines.Bad cause)) es
    texts_after earlier c (lines.Frame packet ∷ es) = texts_after earlier (frame_counts_after kind interface c (lines.Frame packet)) es
    texts_after earlier c (lines.Whole m ∷ es) =
        texts_whole earlier (frame_counts_after kind interface c (lines.Whole m)) m es (λ prefix. texts_after prefix (frame_counts_after kind interface c (lines.Whole m)) es) (refusal (kind m.id.pgn) m) (refusal_by (kind m.id.pgn) m)

    pub texts_are : (c : Counts) (es : List Entry) → texts_from (sending_fold kind interface) (record { held = first_sequences; counts = c }) es ≡ frame_lines kind interface es
    texts_are c es = texts_after [] c es

  pub reports_are : (s : Sent) (n : ℕ) (es : List Entry) → n ≡ s.counts.lines + 1 → reports_from (sending_fold kind interface) s es ≡ frame_reports_from n kind interface es
  reports_are s n [] is = refl
  reports_are s n (e ∷ es) is =
      rw is (ap (λ r. cause_report (s.counts.lines + 1) (line_cause kind interface e) ++ r) (reports_are (record { held = held_after kind s.held e; counts = frame_counts_after kind interface s.counts e }) (s.counts.lines + 1 + 1) es refl))

  counts_after : (s : Sent) (es : List Entry) → (after_all (sending_fold kind interface) s es).counts ≡ record s.counts {
    lines = s.counts.lines + length es;
    messages = s.counts.messages + count_by (is_written kind interface) es;
    bad = s.counts.bad + count_by (is_refused kind interface) es;
  }
  counts_after s [] = counts_are s.counts.lines s.counts.messages s.counts.bad _ _ _ (omega arith) (omega arith) (omega arith) s.counts
  counts_after s (e ∷ es) =
      counts_after (record { held = held_after kind s.held e; counts = frame_counts_after kind interface s.counts e }) es
      ∙ counts_are _ _ _ _ _ _ (omega arith) (one_more (is_written kind interface) s.counts.messages e es) (one_more (is_refused kind interface) s.counts.bad e es) s.counts

  -- a run from the start
  pub counts_are_those : (held : Sequences) (es : List Entry) → (after_all (sending_fold kind interface) (record { held = held; counts = record { lines = 0; messages = 0; bad = 0; unknown = 0; broken = 0; held = 0 } }) es).counts ≡ frame_counts_of kind interface es
  counts_are_those held es = grind (arith, counts_after)

-- the output of a run from the start is that of the whole log
pub output_is : (t : TableParts) (interface : Option (List ℕ)) (held : Sequences) → held ≡ first_sequences → ((ms : List PacketParts) → split_all (kind t) ms ≡ written (kind t) ms)
    → output_from (sending_fold (kind t) interface) Whole (record { held = held; counts = record { lines = 0; messages = 0; bad = 0; unknown = 0; broken = 0; held = 0 } }) ≡ frames_output t interface
output_is t interface held is law = grind (arith, texts_are, reports_are)
