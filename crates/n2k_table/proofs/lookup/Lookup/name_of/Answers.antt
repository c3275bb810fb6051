use Rattle.std.proofs.Common.{◌≡◌, nat_eq, Some, rules, ap, sym, ◌∙◌}
use Rattle.std.specs.Map.{lookup as value_at}
use Rattle.n2k_table.specs.Lookup.{LookupParts, name_of_value}
use Rattle.n2k_table.proofs.Names.{name_of_value-entry_pair}
use Rattle.n2k_table.proofs.lookup.Lookup.name_of.Goals as goal

pub returns-in-Some : goal.returns-in-Some
returns-in-Some c =
    let kept = name_of_value-entry_pair c.args.value c.self.inside.names.entries in
    let here : value_at (nat_eq c.args.value) c.self.inside.names.entries ≡ Some c.in-Some.name.now = search rules in
    sym here ∙ sym (ap (λ (l : LookupParts). name_of_value l.entries c.args.value) (sym c.self.view_is) ∙ kept)

pub returns-in_default : goal.returns-in_default
returns-in_default c =
    let kept = name_of_value-entry_pair c.args.value c.self.inside.names.entries in
    sym (c.self.invariant c.args.value c.if-value-self.true) ∙ sym (ap (λ (l : LookupParts). name_of_value l.entries c.args.value) (sym c.self.view_is) ∙ kept)

pub returns-in_default-2 : goal.returns-in_default-2
returns-in_default-2 c =
    let kept = name_of_value-entry_pair c.args.value c.self.inside.names.entries in
    c.name_by_hash.ensures ∙ sym (ap (λ (l : LookupParts). name_of_value l.entries c.args.value) (sym c.self.view_is) ∙ kept)
