use Rattle.std.proofs.Common.{◌≡◌, ◌≤◌, pos, ◌∙◌, ap, true, arith, refl, to_z, of_z, w64, FitsSigned}
use Rattle.std.proofs.lemmas.Int.{ints, to_z-of_z}
use Rattle.n2k_wire.specs.Calendar.{day_number, is_date}
use Rattle.n2k_wire.proofs.CalendarLemmas.{day_number-is}
use Rattle.n2k_wire.proofs.stamp.civil_day.Goals as goal
use Rattle.n2k_wire.proofs.stamp.civil_day.Goals.{After-day_of_date}

record IsCounted (c : After-day_of_date) : Type 0 where
  pub same : to_z w64 (of_z w64 c.day_of_date.result) ≡ pos (day_number c.args.year c.args.month c.args.day)
  pub few : day_number c.args.year c.args.month c.args.day ≤ 2_932_896
  pub date : is_date c.args.year c.args.month c.args.day ≡ true

counted : (c : After-day_of_date) → IsCounted c
counted c =
    let d = c.in_ok-date.date in
    let is = day_number-is c.args.year c.args.month c.args.day d.year d.month d.day (omega arith)
    c.in_ok-date.ensures.year c.in_ok-date.ensures.month c.in_ok-date.ensures.day (d.year_in, d.month_in, d.day_in) in
    let n : c.day_of_date.result ≡ pos (day_number c.args.year c.args.month c.args.day) = c.day_of_date.ensures ∙ is.0 in
    let fits : FitsSigned w64 (pos (day_number c.args.year c.args.month c.args.day)) = omega (arith, ints, is.1) in
    record { same = ap (λ z. to_z w64 (of_z w64 z)) n ∙ to_z-of_z w64 _ fits; few = is.1; date = is.2 }

pub overflow_cast-result : goal.overflow_cast-result
overflow_cast-result c =
    let n = counted c in
    rw n.same (tt, omega (arith, n.few))

pub returns-clause-value : goal.returns-clause-value
returns-clause-value c =
    let n = counted (goal.at.returns-clause-value c).After-day_of_date in
    rw (n.same, n.date) refl

pub returns-clause-bound : goal.returns-clause-bound
returns-clause-bound c =
    let n = counted (goal.at.returns-clause-bound c).After-day_of_date in
    rw n.same n.few
