-- The frames of one message, and their lines.
use Rattle.std.proofs.Common.{◌≡◌, ◌≤◌, ◌<◌, ◌+◌, ℕ, zero, suc, List, [], ◌∷◌, ◌++◌, length, get_or, map, take, refl, append_assoc, arith, Option, Some, None, Ok, Err, IsOkUnless, MatchOption, option_map, slice_get, append-nil}
use Rattle.std.specs.List.{AllByRecursion, range_with_len}
use Rattle.std.proofs.Math.Seq.{take-suc, take_all}
use Rattle.std.proofs.lemmas.List.Concat.{flat_map-append}
use Rattle.std.proofs.lemmas.Option.{get_or_from_slice_get, slice_get_within}
use Rattle.n2k_wire.specs.declared.fault.WireFault.{WireFault}
use Rattle.n2k_wire.specs.Heads.{line_after}
use Rattle.n2k_wire.specs.Packet.{PacketParts}
use Rattle.n2k_table.specs.declared.definition.Kind.{Kind}
use Rattle.n2k_table.specs.declared.definition.Kind.TheVariants.{Fast, Single}
use Rattle.n2k_join.specs.declared.fault.SplitFault.{SplitFault}
use Rattle.n2k_join.specs.declared.fault.SplitFault.TheVariants as unsplit
use Rattle.n2k_join.specs.Pieces.{Sequences, piece, pieces_as, pieces_by, raised, stream_of}
use Rattle.n2k_join.specs.Splitter.{refusal}
use Rattle.n2k_run.specs.declared.frames.Outcome.{Outcome}
use Rattle.n2k_run.specs.declared.frames.Outcome.TheVariants.{Written, Bad}
use Rattle.n2k_run.specs.FramesOut.{fault_cause, frame_text, frame_texts, interface_cause}
use Rattle.n2k_run.specs.Inner.Sending.{BeginsLines, SentMessage, frame_line}

-- a message that was split isn't refused
pub split_of : {A : Type 0} (refused : Option SplitFault) (x : A) → MatchOption refused (IsOkUnless (Ok x) unsplit.Memory) (λ fault. Ok x ≡ Err fault) → refused ≡ None
split_of refused x e = grind arith

-- the lines of a message that is seen at the interface begin so
pub seen : (interface : Option (List ℕ)) (m : PacketParts) (head : List ℕ) → BeginsLines interface m head → interface_cause interface m ≡ None
seen None m head begins = refl
seen (Some name) m head begins = grind (arith, begins m.payload)

pub line_of : (interface : Option (List ℕ)) (m : PacketParts) (head payload : List ℕ) → BeginsLines interface m head → line_after head payload ≡ frame_text interface (record m { payload = payload })
line_of interface m head payload begins = grind (arith, begins payload)

pub no_line : (interface : Option (List ℕ)) (m : PacketParts) (fault : WireFault) (made : Outcome) → Some made ≡ option_map Bad (fault_cause fault) → ((payload : List ℕ) → frame_line interface (record m { payload = payload }) ≡ Err fault)
    → interface_cause interface m ≡ fault_cause fault
no_line interface m fault made outcome none = grind (arith, none m.payload)

pub one_more : (interface : Option (List ℕ)) (frames : List PacketParts) (n : ℕ) (p : PacketParts) (start now after : List ℕ) → slice_get frames n ≡ Some p → now ≡ start ++ frame_texts interface (take n frames) → after ≡ now ++ frame_text interface p
    → after ≡ start ++ frame_texts interface (take (n + 1) frames)
one_more interface frames n p start now after is before grown = grind (arith, take-suc frames n p (slice_get_within frames n p is), get_or_from_slice_get frames n p p is, flat_map-append (frame_text interface) (take n frames) (p ∷ []), append-nil (frame_text interface p), append_assoc start (frame_texts interface (take n frames)) (frame_text interface p))

-- a message was split, and the lines of all its frames are written
pub sent : (kind : ℕ → Option Kind) (interface : Option (List ℕ)) (m : PacketParts) (held held' : Sequences) (frames : List PacketParts) (n : ℕ) (text text' : List ℕ) → frames ≡ pieces_by kind m (held (stream_of m.id)) → refusal (kind m.id.pgn) m ≡ None
    → held' ≡ raised kind held (stream_of m.id) → interface_cause interface m ≡ None → length frames ≤ n → text' ≡ text ++ frame_texts interface (take n frames) → SentMessage kind interface m held held' text text' Written
sent kind interface m held held' frames n text text' are split after seen all is = grind (arith, take_all)

pub not_sent : (kind : ℕ → Option Kind) (interface : Option (List ℕ)) (m : PacketParts) (held held' : Sequences) (fault : WireFault) (made : Outcome) (text : List ℕ) → refusal (kind m.id.pgn) m ≡ None → held' ≡ raised kind held (stream_of m.id)
    → interface_cause interface m ≡ fault_cause fault → Some made ≡ option_map Bad (fault_cause fault) → SentMessage kind interface m held held' text text made
not_sent kind interface m held held' fault made text split after seen outcome = grind (arith, append-nil)
