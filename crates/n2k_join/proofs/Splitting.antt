-- The splitter's counters give the sequences that the whole list gives.
use Rattle.std.proofs.Common.{◌≡◌, ℕ, ◌%◌, true, List, [], ◌∷◌, ◌++◌, Option, refl, arith, flat_map, count_by}
use Rattle.std.proofs.lemmas.Bool.{and_parts, eqb-true}
use Rattle.std.proofs.lemmas.List.Sums.{sum_by_push}
use Rattle.n2k_wire.specs.Packet.{PacketParts}
use Rattle.n2k_table.specs.declared.definition.Kind.{Kind}
use Rattle.n2k_join.specs.Pieces.{pieces_as, Stream, stream_of, same_stream, sendings_after, frames_of_sending, written, Sequences, first_sequences, is_fast, raised, split_all, split_from}

-- how many of the messages are of the stream
abbrev of_stream : Stream → List PacketParts → ℕ
of_stream s ms = count_by (λ (e : PacketParts). same_stream (stream_of e.id) s) ms

-- the sequences of a splitter after the earlier messages, for each stream with a fast PGN
record IsAfter (kind : ℕ → Option Kind) (held : Sequences) (earlier : List PacketParts) : Type 0 where
  counted : (s : Stream) → is_fast (kind s.pgn) ≡ true → held s ≡ of_stream s earlier % 8

same_pieces : (k : Option Kind) (m : PacketParts) (a b : ℕ) → (is_fast k ≡ true → a ≡ b) → pieces_as k m a ≡ pieces_as k m b
unfolding pieces_as
same_pieces k m a b e = grind arith

-- streams that are the same have one PGN
same_pgn : (a b : Stream) → same_stream a b ≡ true → a.pgn ≡ b.pgn
unfolding same_stream
same_pgn a b e = eqb-true _ _ (and_parts _ _ (and_parts _ _ e).1).0

after_raised : (kind : ℕ → Option Kind) (held : Sequences) (earlier : List PacketParts) (m : PacketParts) → IsAfter kind held earlier → IsAfter kind (raised kind held (stream_of m.id)) (earlier ++ m ∷ [])
unfolding raised
after_raised kind held earlier m after = grind (arith, sum_by_push, same_pgn)

splits : (kind : ℕ → Option Kind) (held : Sequences) (earlier ms : List PacketParts) → IsAfter kind held earlier → split_from kind held ms ≡ flat_map (frames_of_sending kind) (sendings_after earlier ms)
unfolding split_from
splits kind held earlier [] after = refl
splits kind held earlier (m ∷ ms) after = grind (arith, splits kind (raised kind held (stream_of m.id)) (earlier ++ m ∷ []) ms (after_raised kind held earlier m after), same_pieces)

pub splits_written : (kind : ℕ → Option Kind) (ms : List PacketParts) → split_all kind ms ≡ written kind ms
splits_written kind ms = splits kind first_sequences [] ms (record { counted = λ s e. refl })
