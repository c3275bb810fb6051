use Rattle.std.proofs.Common.{Some, sym, ap, ◌∙◌}
use Rattle.n2k_c.proofs.Opening.{not_saved}
use Rattle.n2k_c.proofs.calls.save.Goals as goal

pub returns-in-Ok-save_into : goal.returns-in-Ok-save_into
returns-in-Ok-save_into c = (c.in-Ok-save_into.ensures.0, record { from = c.deref.result.now; to = c.in-Ok.decoder.value; was = c.in-Ok.ensures.0 ∙ ap Some (sym c.deref.ensures); is = c.keep.ensures; how = (sym c.deref.ensures, c.in-Ok-save_into.ensures.1) })

pub returns-in-Err-save_into : goal.returns-in-Err-save_into
returns-in-Err-save_into c =
    not_saved _ (c.args.room.now, c.args.size.now) (c.save_into.new.room, c.save_into.new.size) c.args.h.now.hold.holds c.keep_refused.new.h.hold.holds c.deref.result.now c.in-Ok.decoder.value c.in-Err-save_into.refusal c.keep_refused.result
    c.keep_refused.ensures.answer (c.in-Ok.ensures.0 ∙ ap Some (sym c.deref.ensures)) c.keep_refused.ensures.kept (sym c.deref.ensures) c.in-Err-save_into.ensures
