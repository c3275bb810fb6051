use Rattle.std.proofs.Common.{option_map, subst, sym}
use Rattle.n2k_c.specs.declared.decoder.Decoder.{Decoder}
use Rattle.n2k_c.specs.Answers.{IsMadeBy, asks_encoder}
use Rattle.n2k_c.proofs.calls.made.Goals as goal

pub returns-in-Ok-new : goal.returns-in-Ok-new
returns-in-Ok-new c =
    let handed = option_map (λ bytes. bytes.now) c.args.handed in
    subst (λ (d : Decoder). IsMadeBy (asks_encoder c.args.settings.now) c.args.table.value c.args.settings.now handed d) (sym c.in-Ok-new.ensures.ok) c.in-Ok.ensures
