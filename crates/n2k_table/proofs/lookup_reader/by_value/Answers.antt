use Rattle.std.proofs.Common.{◌≡◌, ℕ, List, ◌∷◌, None, nat_eq, is_some, sym, ap, ◌∙◌}
use Rattle.std.specs.Vec.Iter.{into_iter_items}
use Rattle.std.specs.Map.{lookup as value_at}
use Rattle.n2k_table.proofs.Names.{twice_entry, one_more_entry, still_once, is_none}
use Rattle.n2k_table.proofs.lookup_reader.by_value.Goals as goal

pub returns-then-is_some : goal.returns-then-is_some
returns-then-is_some c = λ other.
    twice_entry c.loop-entry.names.entries c.in-Some.entry _ _ c.args.entries.items c.in-Some.ensures.steps.0 c.loop-entry.invariant.2
    (rw (← c.entry.view_is) (sym (c.if-is_some.ensures ∙ ap is_some c.in_ok-insert.ensures.old)))

pub loop-entry-preserved : goal.loop-entry-preserved
loop-entry-preserved c =
    let none : value_at (nat_eq c.entry.inside.value) c.loop-entry.names.entries ≡ None =
    is_none (value_at (nat_eq c.entry.inside.value) c.loop-entry.names.entries) (sym (c.if-is_some.ensures ∙ ap is_some c.in_ok-insert.ensures.old)) in
    let here : into_iter_items c.loop-entry.entry-iterator ≡ (c.entry.inside.value, c.entry.inside.name) ∷ into_iter_items c.next.new.self =
    c.in-Some.ensures.steps.0 ∙ ap (λ (e : ℕ × List ℕ). e ∷ into_iter_items c.next.new.self) (sym c.entry.view_is) in (
      tt,
      tt,
      one_more_entry c.loop-entry.names c.entry.inside.value c.entry.inside.name none c.insert.new.self.entries _ _ c.args.entries.items c.in_ok-insert.ensures.entries here c.loop-entry.invariant.2,
      still_once c.loop-entry.names c.entry.inside.value c.entry.inside.name none c.insert.new.self.entries c.in_ok-insert.ensures.entries c.loop-entry.invariant.3,
    )
