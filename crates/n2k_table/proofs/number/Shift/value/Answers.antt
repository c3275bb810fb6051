use Rattle.std.proofs.Common.{◌≡◌, ◌^◌, pos, ◌+ℤ◌, to_z, of_z, arith}
use Rattle.std.proofs.lemmas.Int.{ints, fits_signed_mul}
use mir.Syntax.{w128}
use Rattle.n2k_table.proofs.number.Shift.value.Goals as goal

pub overflow_mul-result : goal.overflow_mul-result
overflow_mul-result c =
    let m : to_z w128 (of_z w128 c.from-3.result) ≡ pos c.args.self.resolution.mantissa = omega (arith, ints) in
    fits_signed_mul w128 (to_z w128 (of_z w128 (to_z w128 (of_z w128 c.from.result) +ℤ to_z w128 (of_z w128 c.from-2.result)))) (to_z w128 (of_z w128 c.from-3.result)) (2 ^ 65) (2 ^ 32) (omega (arith, ints)) (omega (arith, ints)) (omega arith)
