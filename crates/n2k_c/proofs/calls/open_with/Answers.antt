use Rattle.std.proofs.Common.{List, ℕ, Option, subst}
use Rattle.n2k_c.specs.Answers.{IsMadeBy, asks_encoder}
use Rattle.n2k_c.proofs.Opening.{none_is}
use Rattle.n2k_c.proofs.calls.open_with.Goals as goal

pub returns-in-Ok : goal.returns-in-Ok
returns-in-Ok c = record {
  decoder = c.in-Ok.decoder.value;
  was = none_is c.args.h.now.hold.holds c.args.h.now.live c.args.h.now.tied c.if-h.false;
  is = c.keep.ensures;
  made = subst (λ (h : Option (List ℕ)). IsMadeBy (asks_encoder c.args.settings.now) c.args.table.value c.args.settings.now h c.in-Ok.decoder.value) c.handed_in.ensures c.in-Ok.ensures;
}
