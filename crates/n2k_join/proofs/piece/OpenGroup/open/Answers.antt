use Rattle.std.proofs.Common.{refl}
use Rattle.n2k_join.specs.Inner.Stored.{key_of, piece_of, frame_of}
use Rattle.n2k_join.proofs.SlotLemmas.{open-slots, empty-slots}
use Rattle.n2k_join.proofs.piece.OpenGroup.open.Goals as goal

pub take-requires : goal.take-requires
take-requires c = empty-slots c.new-group.result c.args.frame.now.piece.number c.new-group.ensures.mask

pub returns : goal.returns
returns c packet =
    open-slots (key_of c.args.frame.now.key) c.new-group.result _ (frame_of c.args.first packet c.args.frame.now) (piece_of c.args.frame.now.piece) refl refl c.new-group.ensures.first c.new-group.ensures.mask (c.take.ensures.taken (key_of c.args.frame.now.key))
