use Rattle.std.proofs.Common.{ap, ◌∙◌}
use Rattle.n2k_c.specs.declared.decoder.Decoder.{Decoder}
use Rattle.n2k_c.proofs.calls.table_of.Goals as goal

pub returns-clause-table : goal.returns-clause-table
returns-clause-table c = (c.in_ok-decoder.decoder.value, c.in_ok-decoder.ensures.0, c.in_ok-table.ensures.cases ∙ ap (λ (d : Decoder). d.table.value) c.deref.ensures)
