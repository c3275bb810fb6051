use Rattle.std.proofs.Common.{Some, inr, sym, ap, ◌∙◌}
use Rattle.n2k_c.proofs.calls.feed.Goals as goal

pub returns-in-Ok-feed : goal.returns-in-Ok-feed
returns-in-Ok-feed c = record { from = c.deref_mut.result.now; to = c.feed.new.self; was = c.in-Ok.ensures.0 ∙ ap Some (sym c.deref_mut.ensures.value); is = c.keep.ensures; how = c.in-Ok-feed.ensures }

pub returns-in-Err-feed : goal.returns-in-Err-feed
returns-in-Err-feed c = inr (c.deref_mut.result.now, c.in-Ok.ensures.0 ∙ ap Some (sym c.deref_mut.ensures.value), c.in-Ok.ensures.1, c.in-Err-feed.ensures)
