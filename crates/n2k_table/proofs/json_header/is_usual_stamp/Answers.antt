use Rattle.std.proofs.Common.{◌≤◌, ◌-◌, length, arith}
use Rattle.n2k_table.proofs.Headers.{usual_stamp}
use Rattle.n2k_table.proofs.json_header.is_usual_stamp.Goals as goal

pub returns-in-Some-Some : goal.returns-in-Some-Some
returns-in-Some-Some c =
    let stamp = c.args.stamp.now in
    let few : length stamp - 16 ≤ 16 = omega (arith, c.if-stamp.true) in
    λ all.
    usual_stamp stamp c.in-Some-Some.first.now c.in-Some-Some.last.now (length stamp - 16) few
    c.in-Some-Some.ensures.cases.same c.in-Some-Some.ensures'.cases.1.same
    (rw (c.are_usual.ensures, c.are_usual-in-Some-Some.ensures) at all)
