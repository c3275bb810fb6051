use Rattle.std.proofs.Common.{not, sym, ap, ◌∙◌}
use Rattle.n2k_table.specs.Definition.{DefinitionParts}
use Rattle.n2k_table.specs.Table.{matches}
use Rattle.n2k_table.proofs.Asking.{none_match}
use Rattle.n2k_table.proofs.definition.StoredDefinition.matches.Goals as goal

pub returns-then-not-self : goal.returns-then-not-self
returns-then-not-self c =
    let none = sym c.self.invariant.1 ∙ c.if-not-self.true in
    ap not c.if-not-self.true ∙ sym (none_match c.args.«data».now c.self.inside.fields.items none)
    ∙ ap (λ (d : DefinitionParts). matches c.args.«data».now d) c.self.view_is
