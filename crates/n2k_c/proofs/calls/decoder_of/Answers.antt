use Rattle.std.proofs.Common.{option_map}
use Rattle.n2k_c.proofs.Opening.{decodes_by}
use Rattle.n2k_c.proofs.calls.decoder_of.Goals as goal

pub returns-in-Ok-open : goal.returns-in-Ok-open
returns-in-Ok-open c =
    let handed = option_map (λ bytes. bytes.now) c.args.handed in
    decodes_by c.args.table.value c.args.settings.now handed c.in-Ok.options c.in-Ok-open.decoder c.requires.known c.in-Ok.ensures c.in-Ok-open.ensures.stands
