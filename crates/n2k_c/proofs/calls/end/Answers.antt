use Rattle.std.proofs.Common.{Some, inr, sym, ap, ◌∙◌}
use Rattle.n2k_c.proofs.calls.end.Goals as goal

pub returns-in-Ok-end : goal.returns-in-Ok-end
returns-in-Ok-end c = record { from = c.deref_mut.result.now; to = c.end.new.self; was = c.in-Ok.ensures.0 ∙ ap Some (sym c.deref_mut.ensures.value); is = c.keep.ensures; how = c.in-Ok-end.ensures }

pub returns-in-Err-end : goal.returns-in-Err-end
returns-in-Err-end c = inr (c.deref_mut.result.now, c.in-Ok.ensures.0 ∙ ap Some (sym c.deref_mut.ensures.value), c.in-Ok.ensures.1, c.in-Err-end.ensures)
