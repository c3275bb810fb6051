use Rattle.std.proofs.Common.{Some, sym, ap, ◌∙◌}
use Rattle.n2k_c.proofs.Opening.{not_moved}
use Rattle.n2k_c.proofs.calls.take_reports.Goals as goal

pub returns-in-Ok-take_reports : goal.returns-in-Ok-take_reports
returns-in-Ok-take_reports c = (c.in-Ok-take_reports.ensures.0, record { from = c.deref_mut.result.now; to = c.take_reports.new.self; was = c.in-Ok.ensures.0 ∙ ap Some (sym c.deref_mut.ensures.value); is = c.keep.ensures; how = c.in-Ok-take_reports.ensures.1 })

pub returns-in-Err-take_reports : goal.returns-in-Err-take_reports
returns-in-Err-take_reports c =
    not_moved _ (λ d. d.reports.held) (c.args.room.now, c.args.size.now) (c.take_reports.new.room, c.take_reports.new.wanted) c.args.h.now.hold.holds c.keep_refused.new.h.hold.holds c.deref_mut.result.now c.take_reports.new.self c.in-Err-take_reports.refusal c.keep_refused.result
    c.keep_refused.ensures.answer c.in-Err-take_reports.ensures.0 (c.in-Ok.ensures.0 ∙ ap Some (sym c.deref_mut.ensures.value)) c.keep_refused.ensures.kept c.in-Err-take_reports.ensures.1 c.in-Err-take_reports.ensures.2
