use Rattle.std.proofs.Common.{ap, ◌∙◌}
use Rattle.n2k_table.specs.Shown.{utf8, shown_characters}
use Rattle.n2k_table.proofs.Strings.{shows_utf8, shows_bytes}
use Rattle.n2k_table.proofs.string_value.characters_value.Goals as goal

pub returns-in-Ok : goal.returns-in-Ok
returns-in-Ok c =
    let kept = c.trimmed-kept.result.now in
    ap utf8 c.in-Ok.ensures.cases.0 ∙ shows_utf8 kept c.if-is_empty.ensures c.in-Ok.ensures.cases.1 ∙ ap shown_characters c.trimmed-kept.ensures

pub returns-in-Err : goal.returns-in-Err
returns-in-Err c =
    shows_bytes c.trimmed-kept.result.now c.if-is_empty.ensures c.in-Err.ensures.cases.0 ∙ ap shown_characters c.trimmed-kept.ensures
