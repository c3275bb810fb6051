use Rattle.std.proofs.Common.{◌≡◌, ◌<◌, ◌∙◌, arith, length, rules, sym, vec_len}
use Rattle.n2k_encode_run.proofs.Feeding.{feeds_rest, rest_none, some_kept}
use Rattle.n2k_encode_run.proofs.encoder.Encoder.feed_rest.Goals as goal

pub returns-then-is_empty-clause-fed : goal.returns-then-is_empty-clause-fed
returns-then-is_empty-clause-fed c = λ part none is.
    let empty : length c.args.room.now.kept.items ≡ 0 = search rules in
    rest_none c.args.self.now.table.now c.args.self.now.nearest part c.args.room.now.kept.items c.args.ledger.now is empty

pub returns-else-is_empty-clause-fed : goal.returns-else-is_empty-clause-fed
returns-else-is_empty-clause-fed c = λ part none is.
    let long : 0 < vec_len c.args.room.now.kept = some_kept (vec_len c.args.room.now.kept) (sym c.is_empty.ensures ∙ c.if-is_empty.false) in
    let some : 0 < length c.args.room.now.kept.items = omega (arith, long) in
    feeds_rest c.args.self.now.table.now c.args.self.now.nearest part c.args.room.now.kept.items c.args.ledger.now c.take_kept.new.ledger c.take_kept.result none is some (c.take_kept.ensures.taken part is)
