use Rattle.std.proofs.Common.{List, ap, ◌∙◌}
use Rattle.std.specs.List.{find}
use Rattle.std.specs.Str.{bytes_eq}
use Rattle.n2k_table.specs.Lookup.{LookupParts}
use Rattle.n2k_table.proofs.Lookups.{found-named}
use Rattle.n2k_table.proofs.lookup.Lookups.find.Goals as goal

pub returns : goal.returns
returns c =
    found-named (λ r. r.value) c.get.result c.args.name.now c.self.inside.by_name.entries c.get.ensures.value c.self.invariant
    ∙ ap (λ (ls : List LookupParts). find (λ (p : LookupParts). bytes_eq c.args.name.now p.name) ls) c.self.view_is
