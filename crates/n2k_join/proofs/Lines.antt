-- Lines rise: so a frame is found by its line, and a group by that of its last frame.
use Rattle.std.proofs.Common.{◌≡◌, ℕ, ◌+◌, true, List, [], ◌∷◌, ap, sym, arith, Option, Some, drop, slice_index_or}
use Rattle.n2k_wire.specs.Packet.{PacketParts}
use Rattle.n2k_wire.specs.declared.entry.Entry.{Entry}
use Rattle.n2k_wire.specs.declared.entry.Entry.TheVariants as entries
use Rattle.n2k_table.specs.declared.definition.Kind.{Kind}
use Rattle.n2k_table.specs.declared.definition.Kind.TheVariants.{Fast}
use Rattle.n2k_join.specs.Frames.{Frame, fast_frame, frame_with, is_fast_payload, frame_in, frames_from}
use Rattle.n2k_join.specs.State.{Rise}
use Rattle.n2k_join.proofs.Rising.{rise-less}

abbrev pub line_of : Frame → ℕ
line_of f = f.line

-- the frames' lines rise, from n on
abbrev pub RiseFrom : ℕ → List Frame → Type 0
RiseFrom n fs = Rise line_of n fs

-- the frame of an entry comes from a packet of a fast PGN with valid data
pub record IsFrameOf (kind : ℕ → Option Kind) (n : ℕ) (e : Entry) (f : Frame) : Type 0 where
  pub packet : PacketParts
  pub entry : e ≡ entries.Frame packet
  pub fast : kind packet.id.pgn ≡ Some Fast
  pub fits : is_fast_payload packet.payload ≡ true
  pub is : frame_with n packet (slice_index_or packet.payload 0 0) (drop 1 packet.payload) ≡ f

pub frame_of_packet : (kind : ℕ → Option Kind) (n : ℕ) (e : Entry) (f : Frame) → frame_in kind n e ≡ Some f
    → IsFrameOf kind n e f
unfolding fast_frame
frame_of_packet kind n e f same = grind arith

-- a frame's line is its entry's
pub frame_in-line : (kind : ℕ → Option Kind) (n : ℕ) (e : Entry) (f : Frame) → frame_in kind n e ≡ Some f → f.line ≡ n
frame_in-line kind n e f same = ap line_of (sym (frame_of_packet kind n e f same).is)

pub frames-rise : (kind : ℕ → Option Kind) (n : ℕ) (es : List Entry) → RiseFrom n (frames_from kind n es)
frames-rise kind n [] = tt
frames-rise kind n (e ∷ es) = grind (arith, frames-rise kind (n + 1) es, frame_in-line, rise-less)
