-- The frames below the number are written.
use Rattle.std.proofs.Common.{◌≡◌, ◌++◌}
use Rattle.n2k_join.specs.Inner.SavedTokens.{pieces_tokens}
use Rattle.n2k_join.specs.Inner.Slots.{slot_of}
use Rattle.n2k_join.proofs.SavedPieces.{pieces_below}
use Rattle.n2k_join.proofs.saved.text.push_pieces.Given as goal

abbrev pub invariant-loop-number : goal.invariant-loop-number
invariant-loop-number l = record {
  tokens : l.out.tokens ≡ l.initial.out.tokens ++ pieces_tokens (pieces_below (slot_of l.group) l.number);
  before : l.out.before ≡ l.initial.out.before;
}
