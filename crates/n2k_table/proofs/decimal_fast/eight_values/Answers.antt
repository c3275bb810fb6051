use Rattle.std.proofs.Common.{◌/◌, ◌%◌, ◌^◌, arith}
use Rattle.n2k_table.proofs.Splits.{tens_are}
use Rattle.n2k_table.proofs.decimal_fast.eight_values.Goals as goal

pub overflow_sub-result : goal.overflow_sub-result
overflow_sub-result c =
    let n = c.args.number in
    let tens = tens_are (n / 10 ^ 6) (n / 10 ^ 4 % 100) (n / 10 ^ 2 % 100) (n % 100) c.four_pairs-pairs.result
    (omega (arith, c.requires)) (omega arith) (omega arith) (omega arith) c.four_pairs-pairs.ensures in
    omega (arith, tens, c.four_pairs-pairs.ensures)

pub returns : goal.returns
returns c =
    let n = c.args.number in
    let tens = tens_are (n / 10 ^ 6) (n / 10 ^ 4 % 100) (n / 10 ^ 2 % 100) (n % 100) c.four_pairs-pairs.result
    (omega (arith, c.requires)) (omega arith) (omega arith) (omega arith) c.four_pairs-pairs.ensures in
    omega (arith, c.requires, tens, c.four_pairs-pairs.ensures)
