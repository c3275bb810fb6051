use Rattle.std.proofs.Common.{◌≡◌, false, sym, ◌∙◌}
use Rattle.std.specs.List.{list_any}
use Rattle.std.proofs.lemmas.List.{at_drop_all}
use Rattle.n2k_table.specs.Inner.Index.{differs}
use Rattle.n2k_table.proofs.OneKind.{mixed-differs, any_here}
use Rattle.n2k_table.proofs.index.has_mixed.Goals as goal

pub returns-then-differs : goal.returns-then-differs
returns-then-differs c =
    let ds = c.args.definitions.now in
    let here = any_here (differs ds) ds c.loop-definition.definition-index c.definition-item.result c.loop-definition-test.true c.definition-item.is (sym c.differs.ensures ∙ c.if-differs.true) in
    sym (mixed-differs ds ∙ sym c.loop-definition.invariant ∙ here)

pub returns : goal.returns
returns c =
    let ds = c.args.definitions.now in
    let none : list_any (differs ds) ds ≡ false = sym c.loop-definition.invariant ∙ at_drop_all (list_any (differs ds)) ds c.loop-definition.definition-index c.loop-definition-test.false in
    sym (mixed-differs ds ∙ none)
