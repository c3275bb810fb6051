-- The frames so far, by rising number, and the remaining frames, which rise if all rise.
use Rattle.std.proofs.Common.{◌≡◌, ◌≤◌, ◌<◌, take, drop}
use Rattle.std.specs.List.{AllByRecursion}
use Rattle.n2k_join.specs.Frames.{Key}
use Rattle.n2k_join.specs.Open.{Piece}
use Rattle.n2k_join.specs.Resumed.{pieces_rise}
use Rattle.n2k_join.specs.State.{Rise, IsPiece}
use Rattle.n2k_join.specs.Inner.Slots.{group_in}
use Rattle.n2k_join.proofs.saved.resume.stored_pieces.Given as goal

abbrev pub invariant-loop-piece : goal.invariant-loop-piece
invariant-loop-piece l = record {
  left : pieces_rise l.least (drop l.piece-index l.pieces) ≡ pieces_rise 0 l.pieces;
  kept : (key : Key) → group_in key l.group ≡ record { first = l.fn.first; key = key; pieces = take l.piece-index l.pieces };
  rise : Rise (λ (p : Piece). p.number) 0 (take l.piece-index l.pieces);
  below : AllByRecursion (λ (p : Piece). p.number < l.least) (take l.piece-index l.pieces);
  small : l.least ≤ 32;
  parts : AllByRecursion IsPiece (take l.piece-index l.pieces);
}
