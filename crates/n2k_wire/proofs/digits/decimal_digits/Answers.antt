use Rattle.std.proofs.Common.{◌≡◌, length, arith}
use Rattle.n2k_wire.proofs.DigitLemmas.{reads_on, ends_at, all_read, fits_digits}
use Rattle.n2k_wire.proofs.digits.decimal_digits.Goals as goal

pub overflow_mul-number : goal.overflow_mul-number
overflow_mul-number c =
    omega (arith, fits_digits c.loop-byte.number c.in_ok-digit.digit c.loop-byte.byte-index c.loop-byte.invariant.short c.in_ok-digit.ensures.small (omega arith))

pub overflow_add-number : goal.overflow_add-number
overflow_add-number c =
    omega (arith, fits_digits c.loop-byte.number c.in_ok-digit.digit c.loop-byte.byte-index c.loop-byte.invariant.short c.in_ok-digit.ensures.small (omega arith))

pub returns-in_err-digit-clause-value : goal.returns-in_err-digit-clause-value
returns-in_err-digit-clause-value c =
    rw c.from_residual.ensures (ends_at c.args.digits.now c.loop-byte.number c.loop-byte.byte-index _ c.loop-byte-test.true c.in_err-digit.ensures.value c.loop-byte.invariant.read)

pub loop-byte-preserved : goal.loop-byte-preserved
loop-byte-preserved c = record {
  short = (fits_digits c.loop-byte.number c.in_ok-digit.digit c.loop-byte.byte-index c.loop-byte.invariant.short c.in_ok-digit.ensures.small (omega arith)).0;
  read = reads_on c.args.digits.now c.loop-byte.number c.loop-byte.byte-index c.in_ok-digit.digit _ c.loop-byte-test.true c.in_ok-digit.ensures.value c.loop-byte.invariant.read;
}

pub returns-clause-value : goal.returns-clause-value
returns-clause-value c =
    all_read c.args.digits.now c.loop-byte.number c.loop-byte.byte-index _ (omega arith) c.loop-byte.invariant.read

pub returns-clause-bound : goal.returns-clause-bound
returns-clause-bound c =
    let all : c.loop-byte.byte-index ≡ length c.args.digits.now = omega arith in
    rw all at c.loop-byte.invariant.short
