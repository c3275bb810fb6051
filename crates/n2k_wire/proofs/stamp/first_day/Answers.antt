use Rattle.std.proofs.Common.{◌≡◌, pos, arith}
use Rattle.jiff_core.proofs.SignedLemmas.{signed_arith}
use Rattle.jiff_core.proofs.CalendarLemmas.{day_count-epoch, days_from_civil-day_count}
use Rattle.n2k_wire.proofs.stamp.first_day.Goals as goal

pub returns : goal.returns
returns c =
    let month_is : pos c.date.result.month ≡ pos 1 = c.date.ensures.1 in
    let day_is : pos c.date.result.day ≡ pos 1 = c.date.ensures.2 in
    let month : c.date.result.month ≡ 1 = cc in
    let day : c.date.result.day ≡ 1 = cc in
    rw (c.date.ensures.0, month, day) (omega (arith, signed_arith, day_count-epoch, days_from_civil-day_count (pos 1970) 1 1))
