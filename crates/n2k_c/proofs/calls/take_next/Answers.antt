use Rattle.std.proofs.Common.{Some, sym, ap, ◌∙◌}
use Rattle.n2k_c.specs.Queue.{first_line}
use Rattle.n2k_c.proofs.Opening.{not_moved}
use Rattle.n2k_c.proofs.calls.take_next.Goals as goal

pub returns-in-Ok-take_next : goal.returns-in-Ok-take_next
returns-in-Ok-take_next c = (c.in-Ok-take_next.ensures.0, record { from = c.deref_mut.result.now; to = c.take_next.new.self; was = c.in-Ok.ensures.0 ∙ ap Some (sym c.deref_mut.ensures.value); is = c.keep.ensures; how = c.in-Ok-take_next.ensures.1 })

pub returns-in-Err-take_next : goal.returns-in-Err-take_next
returns-in-Err-take_next c =
    not_moved _ (λ d. first_line d.output.held) (c.args.room.now, c.args.size.now) (c.take_next.new.room, c.take_next.new.wanted) c.args.h.now.hold.holds c.keep_refused.new.h.hold.holds c.deref_mut.result.now c.take_next.new.self c.in-Err-take_next.refusal c.keep_refused.result
    c.keep_refused.ensures.answer c.in-Err-take_next.ensures.0 (c.in-Ok.ensures.0 ∙ ap Some (sym c.deref_mut.ensures.value)) c.keep_refused.ensures.kept c.in-Err-take_next.ensures.1 c.in-Err-take_next.ensures.2
