use Rattle.std.proofs.Common.{◌≡◌, ◌<◌, ◌+◌, take, sym, ap, subst, ◌∙◌, arith, take_all}
use Rattle.std.specs.List.{AllByRecursion}
use Rattle.n2k_join.specs.Frames.{Key}
use Rattle.n2k_join.specs.Open.{Piece, Group}
use Rattle.n2k_join.specs.State.{IsPiece}
use Rattle.n2k_join.specs.Inner.Slots.{group_in}
use Rattle.n2k_join.specs.Inner.Stored.{piece_of}
use Rattle.n2k_join.proofs.SavedGroups.{slot-past, below-next, left-next, rise-next, all-next, parts-next, kept-next, all-taken}
use Rattle.n2k_join.proofs.saved.resume.stored_pieces.Goals as goal

any_key : Key
any_key = record { src = 0; dst = 0; pgn = 0; sequence = 0 }

pub take-requires : goal.take-requires
take-requires c =
    let l = c.loop-piece in
    let p : Piece = c.piece-item.result in
    let value = c.in_ok-kept.ensures.value in
    let below = below-next c.args.pieces.now l.piece-index l.least p (omega arith) c.piece-item.is value.0 l.invariant.below in
    let number : c.in_ok-kept.kept.number ≡ p.number = ap (λ (q : Piece). q.number) value.1 in
    slot-past l.group _ any_key c.in_ok-kept.kept.number (l.invariant.kept any_key) l.invariant.rise (subst (λ n. AllByRecursion (λ (q : Piece). q.number < n) (take l.piece-index c.args.pieces.now)) (sym number) below) c.in_ok-kept.kept.small

pub loop-piece-preserved : goal.loop-piece-preserved
loop-piece-preserved c =
    let l = c.loop-piece in
    let ps = c.args.pieces.now in
    let p : Piece = c.piece-item.result in
    let value = c.in_ok-kept.ensures.value in
    let number : p.number ≡ c.in_ok-kept.kept.number = sym (ap (λ (q : Piece). q.number) value.1) in
    record {
      left = rw number at (left-next ps l.piece-index l.least p (omega arith) c.piece-item.is value.0 l.invariant.left);
      kept = λ key. kept-next ps l.piece-index l.least p (omega arith) c.piece-item.is value.0 (group_in key l.group) (group_in key c.take.new.self) (piece_of c.in_ok-kept.kept) c.args.first key value.1 (l.invariant.kept key) (c.take.ensures.taken key) l.invariant.rise l.invariant.below;
      rise = rise-next ps l.piece-index l.least p (omega arith) c.piece-item.is value.0 l.invariant.rise l.invariant.below;
      below = subst (λ n. AllByRecursion (λ (q : Piece). q.number < n + 1) (take (l.piece-index + 1) ps)) number (all-next ps l.piece-index l.least p (omega arith) c.piece-item.is value.0 l.invariant.below);
      small = omega (arith, c.in_ok-kept.kept.small);
      parts = parts-next ps l.piece-index l.least p (omega arith) c.piece-item.is value.0 l.invariant.parts (subst IsPiece value.1 c.in_ok-kept.ensures.parts);
    }

pub returns-clause-value : goal.returns-clause-value
returns-clause-value c key = (
  all-taken c.args.pieces.now c.loop-piece.piece-index c.loop-piece.least c.loop-piece-test.false c.loop-piece.invariant.left,
  c.loop-piece.invariant.kept key ∙ ap (λ ps. let g : Group = record { first = c.args.first; key = key; pieces = ps } in g) (take_all c.loop-piece.piece-index c.args.pieces.now c.loop-piece-test.false),
)
