use Rattle.std.proofs.Common.{sym, take-append-drop}
use Rattle.n2k_wire.proofs.PlainFast.{numbered}
use Rattle.n2k_wire.proofs.plain_fast.number_before.Goals as goal

pub returns-clause-value : goal.returns-clause-value
returns-clause-value c =
    numbered c.args.limit c.in_ok-number.number c.args.text.now c.split_at.result.0.now c.split_at.result.1.now c.in_ok-rest.rest.now
    (rw (c.split_at.ensures.front, c.split_at.ensures.back) (take-append-drop c.args.digits c.args.text.now)) c.in_ok-rest.ensures (sym c.in_ok-number.ensures.value)
