use Rattle.std.proofs.Common.{◌≡◌, ◌^◌, pos, to_z, of_z, arith}
use Rattle.std.proofs.lemmas.Int.{ints, fits_signed_mul}
use mir.Syntax.{w128}
use Rattle.n2k_table.proofs.number.Number.value.Goals as goal

pub overflow_mul-size : goal.overflow_mul-size
overflow_mul-size c =
    let size : to_z w128 (of_z w128 c.from.result) ≡ pos c.args.self.size = omega (arith, ints) in
    let m : to_z w128 (of_z w128 c.from-2.result) ≡ pos c.args.self.resolution.mantissa = omega (arith, ints) in
    fits_signed_mul w128 (to_z w128 (of_z w128 c.from.result)) (to_z w128 (of_z w128 c.from-2.result)) (2 ^ 64) (2 ^ 32) (omega (arith, ints)) (omega (arith, ints)) (omega arith)
