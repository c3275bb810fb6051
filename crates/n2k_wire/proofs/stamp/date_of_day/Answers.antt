use Rattle.std.proofs.Common.{◌≡◌, ℕ, ℤ, ◌≤◌, ◌∙◌, pos, arith, FitsSigned, w64}
use Rattle.std.proofs.lemmas.Int.{ints, to_z-of_z}
use Rattle.jiff.proofs.SpanFacts.{signed_arith, date_add-days, can_add-days}
use Rattle.n2k_wire.proofs.stamp.date_of_day.Goals as goal

fits : (n : ℤ) (day : ℕ) → n ≡ pos day → day ≤ 2_932_896 → FitsSigned w64 n
fits n day e h = rw e (omega (arith, ints))

pub unwrap-requires : goal.unwrap-requires
unwrap-requires c =
    let fit = fits c.from.result c.args.day c.from.ensures c.requires in
    let only = simp (to_z-of_z, fit) at c.days.ensures in
    let can = can_add-days c.first_day.result c.from.result c.days.result only in
    c.checked_add.ensures.succeeds.1 (can.1 (omega (arith, signed_arith, c.first_day.ensures, c.from.ensures, c.requires)))

pub returns : goal.returns
returns c =
    let fit = fits c.from.result c.args.day c.from.ensures c.requires in
    let only = simp (to_z-of_z, fit) at c.days.ensures in
    let value = rw c.unwrap.ensures at c.checked_add.ensures.value in
    omega (arith, signed_arith, value ∙ date_add-days c.first_day.result c.from.result c.days.result only, c.first_day.ensures, c.from.ensures)
