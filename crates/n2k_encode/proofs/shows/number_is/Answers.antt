use Rattle.std.proofs.Common.{arith, ◌≡◌, ◌+◌, ◌*◌, ◌≤◌, ◌^◌, Some, rules}
use Rattle.std.specs.Int.RustNames.{unsigned_abs}
use Rattle.fast_float.specs.Text.{scan}
use Rattle.n2k_encode.specs.Numeral.{digits_of, scaled}
use Rattle.n2k_encode.specs.Says.{number_is}
use Rattle.n2k_encode.proofs.Near.{scaled_small, far}
use Rattle.n2k_encode.proofs.shows.number_is.Goals as goal

pub returns-in-None : goal.returns-in-None
unfolding number_is
returns-in-None c =
    let k = c.args.decimals + 1 in
    let parts = scan (digits_of c.args.text.now) in
    let is : scaled (c.args.decimals + 1) (scan (digits_of c.args.text.now)) ≡ Some c.in-Some.given = search rules in
    let large : 2 ^ 128 ≤ 10 * unsigned_abs c.args.value = search rules in
    grind (arith, is, far c.args.slack (10 * unsigned_abs c.args.value) c.in-Some.given (scaled_small k parts c.in-Some.given is) large c.requires)
