use Rattle.std.proofs.Common.{sym, ap, ◌∙◌}
use Rattle.n2k_table.specs.Definition.{DefinitionParts}
use Rattle.n2k_table.specs.Table.{matches}
use Rattle.n2k_table.proofs.Asking.{none_match}
use Rattle.n2k_table.proofs.definition.StoredDefinition.asks.Goals as goal

pub returns : goal.returns
returns c = λ none payload.
    sym (ap (λ (d : DefinitionParts). matches payload d) c.self.view_is) ∙ none_match payload c.self.inside.fields.items (sym c.self.invariant.1 ∙ none)
