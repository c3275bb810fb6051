use Rattle.std.proofs.Common.{Some, sym, ap, ◌∙◌}
use Rattle.n2k_c.proofs.calls.waiting.Goals as goal

pub returns : goal.returns
returns c = record { from = c.deref.result.now; to = c.in-Ok.decoder.value; was = c.in-Ok.ensures.0 ∙ ap Some (sym c.deref.ensures); is = c.keep.ensures; how = (sym c.deref.ensures, c.waiting.ensures) }
