use Rattle.std.proofs.Common.{◌≤◌, ◌^◌, ap, sym, ◌∙◌, arith}
use Rattle.std.specs.Str.Parse.{digits_value_after}
use Rattle.n2k_table.proofs.Digits.{of_parts_too_large, of_whole_too_large, of_parts_zero, of_parts_fits}
use Rattle.n2k_table.proofs.resolution.of_parts.Goals as goal

pub returns-in_default : goal.returns-in_default
returns-in_default c = of_whole_too_large c.args.whole.now c.args.decimals.now (omega (arith, c.in_default.ensures))

pub returns-in_default-read_on : goal.returns-in_default-read_on
returns-in_default-read_on c =
    let large : 2 ^ 32 ≤ digits_value_after 10 c.in-Some.number c.args.decimals.now = omega (arith, c.in_default-read_on.ensures) in
    of_parts_too_large c.args.whole.now c.args.decimals.now (rw (← c.in-Some.ensures.1) large)

pub returns-then-mantissa-eq0 : goal.returns-then-mantissa-eq0
returns-then-mantissa-eq0 c =
    of_parts_zero c.args.whole.now c.args.decimals.now
    (ap (λ n. digits_value_after 10 n c.args.decimals.now) (sym c.in-Some.ensures.1) ∙ sym c.in-Some-read_on.ensures.1 ∙ c.if-mantissa-eq0.true)

pub returns : goal.returns
returns c =
    of_parts_fits c.args.whole.now c.args.decimals.now c.in-Some-read_on.mantissa
    (c.in-Some-read_on.ensures.1 ∙ ap (λ n. digits_value_after 10 n c.args.decimals.now) c.in-Some.ensures.1)
    (omega (arith, c.in-Some-read_on.ensures)) (omega arith)
