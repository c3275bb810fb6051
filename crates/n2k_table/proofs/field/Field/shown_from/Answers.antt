use Rattle.std.proofs.Common.{refl, sym, ap, ◌∙◌}
use Rattle.n2k_table.specs.Field.{FieldParts}
use Rattle.n2k_table.specs.Shown.{lies_inside, shown_from}
use Rattle.n2k_table.proofs.Numbers.{field_shows, field_shows_shifted}
use Rattle.n2k_table.proofs.field.Field.shown_from.Goals as goal

pub returns-in-Number : goal.returns-in-Number
returns-in-Number c =
    let payload = c.args.«data».now in
    let kept = c.self.invariant in
    let inside = ap (λ (f : FieldParts). lies_inside f payload) c.self.view_is ∙ sym c.if-not-lies_inside.ensures in
    (rw c.number.ensures at c.shown.ensures)
    ∙ field_shows _ payload c.self.inside.meaning c.in-Number.scale c.raw-raw.result refl c.in-Number.is kept.room c.raw-raw.ensures.value c.raw-raw.ensures.range inside
    ∙ ap (λ (f : FieldParts). shown_from f payload) c.self.view_is

pub returns-in-Shifted : goal.returns-in-Shifted
returns-in-Shifted c =
    let payload = c.args.«data».now in
    let kept = c.self.invariant in
    let inside = ap (λ (f : FieldParts). lies_inside f payload) c.self.view_is ∙ sym c.if-not-lies_inside.ensures in
    c.shown-in-Shifted.ensures
    ∙ field_shows_shifted _ payload c.self.inside.meaning c.in-Shifted.shift _ refl c.in-Shifted.is kept.room c.raw.ensures.value c.raw.ensures.range inside
    ∙ ap (λ (f : FieldParts). shown_from f payload) c.self.view_is
