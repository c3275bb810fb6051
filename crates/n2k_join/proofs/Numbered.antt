-- The sequences that a splitter holds, as its map of streams keeps them.
use Rattle.std.proofs.Common.{◌≡◌, ℕ, ◌+◌, ◌%◌, ◌<◌, true, cond, ◌&&◌, List, Option, Some, sym, ◌∙◌, arith, unwrap_or}
use Rattle.std.specs.Map.{lookup}
use Rattle.n2k_table.specs.declared.definition.Kind.{Kind}
use Rattle.n2k_table.specs.declared.definition.Kind.TheVariants.{Single, Fast}
use Rattle.n2k_join.specs.Pieces.{Stream, same_stream, Sequences, is_fast, raised}
use Rattle.n2k_join.specs.Splitter.{sequences}
use Rattle.n2k_join.specs.Inner.Stored.{AreSequences}

pub same_stream-true : (a b : Stream) → same_stream a b ≡ true → a ≡ b
unfolding same_stream
same_stream-true a b e = grind arith

-- the sequence of a stream after the sequence of one stream was raised
pub raised_by_map : (held : List (Stream × ℕ)) (stream other : Stream) (n : ℕ) (found : Option ℕ) → n ≡ sequences held stream
    → found ≡ cond (same_stream stream other) (Some ((n + 1) % 8)) (lookup (same_stream other) held)
    → unwrap_or found 0 ≡ cond (same_stream stream other) ((sequences held other + 1) % 8) (sequences held other)
raised_by_map held stream other n found e f = grind (arith, same_stream-true)

-- a raised sequence is below 8
pub raised_below : (held : List (Stream × ℕ)) (stream other : Stream) (after : ℕ) → AreSequences held → after ≡ cond (same_stream stream other) ((sequences held other + 1) % 8) (sequences held other) → after < 8
raised_below held stream other after are is = grind (arith)

-- a message of a single PGN raises nothing
pub raised_single : (kind : ℕ → Option Kind) (held : Sequences) (s : Stream) → kind s.pgn ≡ Some Single → raised kind held s ≡ held
unfolding raised
raised_single kind held s e = λ i other. cond (is_fast (e i) && same_stream s other) ((held other + 1) % 8) (held other)

-- a message of a fast PGN raises its stream's sequence
pub raised_fast : (kind : ℕ → Option Kind) (held after : Sequences) (s : Stream) → kind s.pgn ≡ Some Fast
    → ((other : Stream) → after other ≡ cond (same_stream s other) ((held other + 1) % 8) (held other)) → after ≡ raised kind held s
unfolding raised
raised_fast kind held after s e by_stream = (λ i other. by_stream other i) ∙ (λ i other. cond (is_fast (sym e i) && same_stream s other) ((held other + 1) % 8) (held other))
