-- The messages of a whole log, and the messages of a key.
use Rattle.std.specs.Prelude.{◌≡◌, ℕ, List, map, filter, filter_map, length, Option}
use Rattle.n2k_wire.specs.declared.entry.Entry.{Entry}
use Rattle.n2k_wire.specs.Packet.{PacketParts}
use Rattle.n2k_table.specs.declared.definition.Kind.{Kind}
use Rattle.n2k_join.specs.Frames.{Key, same_key, frames}
use Rattle.n2k_join.specs.Groups.{within}
use Rattle.n2k_join.specs.Messages.{Keyed, gathered, message, numbers}
use Rattle.n2k_join.specs.Pieces.{Sending}
use Rattle.n2k_join.specs.Scattered.{sendings_of}
use Rattle.n2k_join.specs.Window.{Window}

-- the messages that a log gives, in the order of its lines
abbrev pub messages : Window → (ℕ → Option Kind) → List Entry → List PacketParts
messages window kind es = filter_map (message window kind es) (numbers es)

-- the messages that the groups of a log give
abbrev pub gathered_messages : Window → (ℕ → Option Kind) → List Entry → List Keyed
gathered_messages window kind es = filter_map (gathered (within window) (frames kind es)) (numbers es)

-- the messages that the groups of a key give
abbrev pub given_to : Key → Window → (ℕ → Option Kind) → List Entry → List PacketParts
given_to key window kind es =
    map (λ (m : Keyed). m.message) (filter (λ (m : Keyed). same_key key m.key) (gathered_messages window kind es))

-- the messages of a list whose frames have the key
abbrev pub sent_to : Key → List PacketParts → List PacketParts
sent_to key ms = map (λ (x : Sending). x.message) (sendings_of key ms)

-- The log gives these messages and no more, each by a group, and each key's in their order.
pub record Replays (window : Window) (kind : ℕ → Option Kind) (ms : List PacketParts) (es : List Entry) : Type 0 where
  pub as_many : length (messages window kind es) ≡ length ms
  pub by_groups : messages window kind es ≡ map (λ (m : Keyed). m.message) (gathered_messages window kind es)
  pub in_order : (key : Key) → given_to key window kind es ≡ sent_to key ms
