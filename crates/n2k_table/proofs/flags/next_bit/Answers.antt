use Rattle.std.proofs.Common.{◌<◌, arith, sym, ◌∙◌}
use Rattle.n2k_table.proofs.FlagBits.{bit_here, bit_passed, no_bit}
use Rattle.n2k_table.proofs.flags.next_bit.Goals as goal

pub loop-bit-preserved : goal.loop-bit-preserved
loop-bit-preserved c =
    c.loop-bit.invariant ∙ bit_passed c.args.raw c.loop-bit.bit c.args.end (omega (arith, c.loop-bit-test.true)) (sym c.if-has_bit.ensures)

pub returns-then-has_bit : goal.returns-then-has_bit
returns-then-has_bit c =
    let lt : c.loop-bit.bit < c.args.end = omega (arith, c.loop-bit-test.true) in
    (lt, c.loop-bit.invariant ∙ bit_here c.args.raw c.loop-bit.bit c.args.end lt (sym c.if-has_bit.ensures))

pub returns : goal.returns
returns c = c.loop-bit.invariant ∙ no_bit c.args.raw c.loop-bit.bit c.args.end (omega (arith, c.loop-bit-test.false))
