use Rattle.std.proofs.Common.{◌≡◌, ℕ, ◌≤◌, refl, arith, pos, ◌∙◌, to_z, of_z, w8, w16, FitsSigned}
use Rattle.std.proofs.lemmas.Int.{ints, to_z-of_z}
use Rattle.jiff_core.proofs.CalendarLemmas.{days_in_month_bounds}
use Rattle.n2k_wire.specs.Calendar.{year_of}
use Rattle.n2k_wire.proofs.CalendarLemmas.{IsDateOf, is_date_of}
use Rattle.n2k_wire.proofs.stamp.civil_date.Goals as goal
use Rattle.n2k_wire.proofs.stamp.civil_date.Goals.{After-date_of_day-date}

found : (c : After-date_of_day-date) → IsDateOf c.args.day c.date_of_day-date.result.year c.date_of_day-date.result.month c.date_of_day-date.result.day
found c =
    let r = c.date_of_day-date.result in
    is_date_of c.args.day r.year r.month r.day (r.year_in, r.month_in, r.day_in) c.date_of_day-date.ensures

same_year : (year : ℕ) → year ≤ 9999 → to_z w16 (of_z w16 (pos year)) ≡ pos year
same_year year h =
    let fits : FitsSigned w16 (pos year) = omega (arith, ints) in
    to_z-of_z w16 (pos year) fits

same_part : (part : ℕ) → part ≤ 31 → to_z w8 (of_z w8 (pos part)) ≡ pos part
same_part part h =
    let fits : FitsSigned w8 (pos part) = omega (arith, ints) in
    to_z-of_z w8 (pos part) fits

pub overflow_cast-result : goal.overflow_cast-result
overflow_cast-result c =
    let f = found (goal.at.overflow_cast-result c).After-date_of_day-date in
    rw (c.year.ensures ∙ f.year_is, same_year (year_of c.args.day) f.year_fits) (tt, omega (arith, f.year_fits))

pub returns-clause-year : goal.returns-clause-year
returns-clause-year c =
    let f = found (goal.at.returns-clause-year c).After-date_of_day-date in
    rw (c.year.ensures ∙ f.year_is, same_year (year_of c.args.day) f.year_fits) refl

pub returns-clause-month : goal.returns-clause-month
returns-clause-month c =
    let f = found (goal.at.returns-clause-month c).After-date_of_day-date in
    let r = c.date_of_day-date.result in
    let few : r.month ≤ 31 = omega (arith, r.month_in) in
    rw (c.month.ensures, same_part r.month few) f.month_is

pub returns-clause-day : goal.returns-clause-day
returns-clause-day c =
    let f = found (goal.at.returns-clause-day c).After-date_of_day-date in
    let r = c.date_of_day-date.result in
    let few : r.day ≤ 31 = omega (arith, r.day_in, days_in_month_bounds r.year r.month) in
    rw (c.day.ensures, same_part r.day few) f.day_is
