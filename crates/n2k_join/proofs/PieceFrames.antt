-- The parts of a frame that is a piece of a message.
use Rattle.std.proofs.Common.{◌≡◌, ℕ, ◌+◌, ◌*◌, ◌<◌, ◌≤◌, true, not, ◌||◌, List, ◌∷◌, length, refl, arith, ◌==◌}
use Rattle.std.proofs.lemmas.Option.{none-some}
use Rattle.n2k_wire.specs.Packet.{longest_message}
use Rattle.n2k_join.specs.Frames.{Frame, fast_frame, frame_with, seven_bytes, has_total, is_fast_payload}
use Rattle.n2k_join.specs.Pieces.{piece_bytes, piece, Sending}
use Rattle.n2k_join.specs.Scattered.{key_of_sending, IsPieceOf}

-- seven bytes are filled already
filled_piece : (payload : List ℕ) (n : ℕ) → seven_bytes (piece_bytes payload n) ≡ piece_bytes payload n
unfolding piece_bytes
filled_piece payload n = refl

pub record SaysPiece (x : Sending) (f : Frame) : Type 0 where
  pub bytes : f.bytes ≡ piece_bytes x.message.payload f.number
  pub key : f.key ≡ key_of_sending x
  pub stamp : f.stamp ≡ x.message.stamp
  pub id : f.id ≡ x.message.id
  pub small : f.number < 32
  pub short : f.number ≡ 0 → length x.message.payload ≤ longest_message

total_fits : (payload : List ℕ) (h n : ℕ) → h ≡ 0 → n ≡ 0 → not (h == 0) || has_total (piece_bytes payload n) ≡ true → length payload ≤ longest_message
unfolding piece_bytes
total_fits payload h n e f t = grind arith

abbrev pub given_frame : Sending → ℕ → ℕ → Frame
given_frame x line n = frame_with line (piece x.message x.sequence n) (32 * x.sequence + n) (piece_bytes x.message.payload n)

says_given : (x : Sending) (f : Frame) → given_frame x f.line f.number ≡ f → is_fast_payload ((32 * x.sequence + f.number) ∷ piece_bytes x.message.payload f.number) ≡ true → SaysPiece x f
says_given x f e t = grind (arith, filled_piece, total_fits)

pub piece_says : (x : Sending) (f : Frame) → IsPieceOf x f → SaysPiece x f
unfolding fast_frame
piece_says x f is = grind (arith, says_given, none-some)
