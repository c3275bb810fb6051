use Rattle.std.proofs.Common.{◌≡◌, ◌+◌, ◌-◌, ap, arith}
use Rattle.n2k_table.specs.Bits.{raw}
use Rattle.n2k_table.proofs.RawBits.{raw_lt, raw_split, pow_le}
use Rattle.n2k_table.proofs.bits.raw_of_two.Goals as goal

pub overflow_add-result : goal.overflow_add-result
overflow_add-result c =
    let payload = c.args.«data».now in
    let few = raw_lt payload c.args.at 32 in
    let rest = raw_lt payload (c.args.at + 32) (c.args.bits - 32) in
    let power = pow_le (c.args.bits - 32) 32 (omega (arith, c.requires)) in
    omega (arith, c.raw_in_word-low.ensures, c.raw_in_word-high.ensures, few, rest, power)

pub returns : goal.returns
returns c =
    let payload = c.args.«data».now in
    let rest = raw_lt payload (c.args.at + 32) (c.args.bits - 32) in
    let power = pow_le (c.args.bits - 32) 32 (omega (arith, c.requires)) in
    let count : 32 + (c.args.bits - 32) ≡ c.args.bits = omega (arith, c.requires) in
    let whole = ap (raw payload c.args.at) count in
    omega (arith, c.raw_in_word-low.ensures, c.raw_in_word-high.ensures, rest, power, whole, raw_split payload c.args.at 32 (c.args.bits - 32))
