use Rattle.std.proofs.Common.{sym, ◌∙◌}
use Rattle.n2k_c.proofs.Opening.{no_state}
use Rattle.n2k_c.proofs.calls.encoder_of.Goals as goal

pub returns : goal.returns
returns c = record { known = c.requires.known; no_state = no_state _ c.args.handed (sym c.is_some.ensures ∙ c.if-is_some.false); begins = c.open_encoder.ensures }
