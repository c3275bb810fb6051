use Rattle.std.proofs.Common.{◌*◌, ◌-◌, arith}
use Rattle.n2k_join.proofs.PieceBytes.{first_bytes, later_bytes}
use Rattle.n2k_join.proofs.splitter.full_piece.Goals as goal

pub returns-then-number-eq0 : goal.returns-then-number-eq0
returns-then-number-eq0 c = grind (arith, first_bytes)

pub returns : goal.returns
returns c =
    let cases = c.in_ok-seven.ensures.cases in
    later_bytes c.args.data.now c.in_ok-after.after.now c.in_ok-seven.seven.now c.args.number (7 * c.args.number - 1) (omega arith) c.in_ok-after.ensures.cases.2 cases.enough cases.same
