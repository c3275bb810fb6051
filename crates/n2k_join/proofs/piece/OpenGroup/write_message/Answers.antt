use Rattle.std.proofs.Common.{◌≤◌, slice_index, get_or, [], arith, length-take}
use Rattle.n2k_wire.specs.Packet.{longest_message}
use Rattle.n2k_join.specs.Frames.{Key}
use Rattle.n2k_join.proofs.SlotLemmas.{zeroth-slot, data-slots}
use Rattle.n2k_join.proofs.piece.OpenGroup.write_message.Goals as goal

any_key : Key
any_key = record { src = 0; dst = 0; pgn = 0; sequence = 0 }

pub slice_bounds-set_data-end : goal.slice_bounds-set_data-end
slice_bounds-set_data-end c =
    let small : slice_index (get_or c.args.self.now.slots 0 []) 0 ≤ longest_message = c.args.self.now.total (zeroth-slot any_key c.args.self.now (c.requires any_key)) in
    omega (arith, small, c.from-total.ensures, c.as_flattened-sent.ensures.len, c.args.self.now.many)

pub set_data-requires : goal.set_data-requires
set_data-requires c = grind (arith, zeroth-slot, any_key, length-take)

pub returns-clause-message : goal.returns-clause-message
returns-clause-message c key = grind (arith, zeroth-slot key c.args.self.now (c.requires key), data-slots key c.args.self.now (c.requires key) (c.args.self.now.total (zeroth-slot key c.args.self.now (c.requires key))))
