use Rattle.std.proofs.Common.{◌≡◌, ◌∷◌, None, string_bytes, is_some, sym, ap, ◌∙◌}
use Rattle.std.specs.Vec.Iter.{into_iter_items}
use Rattle.std.specs.String.{string_eq}
use Rattle.std.specs.Map.{lookup as value_at}
use Rattle.n2k_table.specs.Lookup.{LookupParts}
use Rattle.n2k_table.proofs.Names.{is_none}
use Rattle.n2k_table.proofs.Lookups.{twice_lookup, lookup_more, still_apart, still_named}
use Rattle.n2k_table.proofs.lookup_reader.by_name.Goals as goal

pub returns-then-is_some : goal.returns-then-is_some
returns-then-is_some c = λ other.
    twice_lookup (λ r. r.value) c.in-Some.lookup c.in_ok-name.name c.loop-lookup.by_name.entries _ _ c.args.lookups.items c.loop-lookup.invariant.4 (c.in_ok-name.ensures.ok ∙ c.name.ensures)
    c.in-Some.ensures.steps.0 c.loop-lookup.invariant.2 (sym (c.if-is_some.ensures ∙ ap is_some c.in_ok-insert.ensures.old))

pub loop-lookup-preserved : goal.loop-lookup-preserved
loop-lookup-preserved c =
    let shared : c.in_ok-new.field-0.value ≡ c.in-Some.lookup = c.in_ok-new.ensures.ok in
    let of : string_bytes c.in_ok-name.name ≡ c.in_ok-new.field-0.value.name = c.in_ok-name.ensures.ok ∙ c.name.ensures ∙ ap (λ (l : LookupParts). l.name) (sym shared) in
    let none : value_at (string_eq c.in_ok-name.name) c.loop-lookup.by_name.entries ≡ None =
    is_none (value_at (string_eq c.in_ok-name.name) c.loop-lookup.by_name.entries) (sym (c.if-is_some.ensures ∙ ap is_some c.in_ok-insert.ensures.old)) in
    let here : into_iter_items c.loop-lookup.lookup-iterator ≡ c.in_ok-new.field-0.value ∷ into_iter_items c.next.new.self =
    c.in-Some.ensures.steps.0 ∙ ap (λ (l : LookupParts). l ∷ into_iter_items c.next.new.self) (sym shared) in (
      tt,
      tt,
      lookup_more (λ r. r.value) c.loop-lookup.by_name c.in_ok-name.name c.in_ok-new.field-0 none c.insert.new.self.entries _ _ c.args.lookups.items c.in_ok-insert.ensures.entries here c.loop-lookup.invariant.2,
      still_apart (λ r. r.value) c.loop-lookup.by_name c.in_ok-name.name c.in_ok-new.field-0 none c.insert.new.self.entries c.in_ok-insert.ensures.entries c.loop-lookup.invariant.4 of c.loop-lookup.invariant.3,
      still_named (λ r. r.value) c.loop-lookup.by_name c.in_ok-name.name c.in_ok-new.field-0 none c.insert.new.self.entries c.in_ok-insert.ensures.entries c.loop-lookup.invariant.4 of,
    )
