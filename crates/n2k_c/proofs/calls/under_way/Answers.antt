use Rattle.std.proofs.Common.{Some, sym, ap, ◌∙◌}
use Rattle.n2k_c.proofs.calls.under_way.Goals as goal

pub returns-then-deref : goal.returns-then-deref
returns-then-deref c = record { from = c.deref.result.now; to = c.in-Ok.decoder.value; was = c.in-Ok.ensures.0 ∙ ap Some (sym c.deref.ensures); is = c.keep.ensures; how = (sym c.deref.ensures, c.if-deref.true) }
