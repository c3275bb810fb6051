use Rattle.std.proofs.Common.{arith}
use Rattle.n2k_table.proofs.Digits.{small_before, digits_done}
use Rattle.n2k_table.proofs.resolution.read_on.Goals as goal

pub returns-in_err-checked_mul : goal.returns-in_err-checked_mul
returns-in_err-checked_mul c =
    let within = small_before c.loop-digit.number c.args.digits.now c.loop-digit.digit-index _ c.loop-digit-test.true c.loop-digit.invariant.1 c.loop-digit.invariant.0 in
    rw c.from_residual.ensures (λ small. c.in_err-checked_mul.ensures (omega (arith, small, within)))

pub returns-in_err-number : goal.returns-in_err-number
returns-in_err-number c =
    let within = small_before c.loop-digit.number c.args.digits.now c.loop-digit.digit-index _ c.loop-digit-test.true c.loop-digit.invariant.1 c.loop-digit.invariant.0 in
    rw c.from_residual-in_err-number.ensures (λ small. c.in_err-number.ensures (omega (arith, small, within, c.in_ok-checked_mul.ensures, c.from-value.ensures)))

pub returns : goal.returns
returns c =
    let read = digits_done c.loop-digit.number c.args.digits.now c.loop-digit.digit-index _ (omega arith) c.loop-digit.invariant.0 in
    (omega (arith, read), read)
