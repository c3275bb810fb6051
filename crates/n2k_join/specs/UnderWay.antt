-- How many messages of one stream are under way at once, each under a key of its own.
use Rattle.std.specs.Prelude.{◌≡◌, ◌≢◌, ◌≤◌, ◌==◌, ◌&&◌, ◌++◌, ℕ, Bool, List, length, filter, AllPairs}
use Rattle.n2k_wire.specs.Packet.{PacketParts}
use Rattle.n2k_join.specs.Frames.{most_sequences}
use Rattle.n2k_join.specs.Pieces.{Sending, sendings}
use Rattle.n2k_join.specs.Scattered.{key_of_sending}

-- the message is of this sender, PGN and receiver
abbrev pub is_sent : ℕ → ℕ → ℕ → Sending → Bool
is_sent src pgn dst x = (x.message.id.src == src) && ((x.message.id.pgn == pgn) && (x.message.id.dst == dst))

-- the messages of a sender, PGN and receiver, in their order, each with its sequence
abbrev pub sent_by : ℕ → ℕ → ℕ → List PacketParts → List Sending
sent_by src pgn dst ms = filter (is_sent src pgn dst) (sendings ms)

-- Any eight consecutive messages of one sender, PGN and receiver, and any fewer, have different keys, whatever other
-- messages come between them.
pub record EightUnderWay (ms : List PacketParts) : Type 0 where
  pub apart : (src pgn dst : ℕ) (prefix next back : List Sending) → sent_by src pgn dst ms ≡ prefix ++ (next ++ back)
      → length next ≤ most_sequences → AllPairs (λ (x y : Sending). key_of_sending x ≢ key_of_sending y) next

-- two messages are of one sender, PGN and receiver
pub record AreOfOneStream (x y : Sending) : Type 0 where
  pub src : x.message.id.src ≡ y.message.id.src
  pub pgn : x.message.id.pgn ≡ y.message.id.pgn
  pub dst : x.message.id.dst ≡ y.message.id.dst
