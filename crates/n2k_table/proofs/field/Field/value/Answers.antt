use Rattle.std.proofs.Common.{refl, sym, ap, ◌∙◌}
use Rattle.n2k_table.specs.Field.{FieldParts}
use Rattle.n2k_table.specs.Shown.{shown}
use Rattle.n2k_table.specs.Inner.FieldValue.{stands_inside}
use Rattle.n2k_table.proofs.AfterStrings.{fixed, shows_at_once}
use Rattle.n2k_table.proofs.Numbers.{field_shows}
use Rattle.n2k_table.proofs.field.Field.value.Goals as goal

pub returns-in-Number : goal.returns-in-Number
returns-in-Number c =
    let payload = c.args.«data».now in
    let view = c.self.view_is in
    let stands = fixed _ payload (ap (λ (f : FieldParts). stands_inside f payload) view ∙ sym c.if-not-stands_inside.ensures) in
    rw c.number.ensures
    (field_shows _ payload c.self.inside.meaning c.in-Number.scale c.raw-raw.result refl c.in-Number.is c.self.invariant.room
    (rw (← view) at c.raw-raw.ensures.value) (rw (← view) at c.raw-raw.ensures.range) stands.1
    ∙ shows_at_once _ payload stands.0
    ∙ ap (λ (f : FieldParts). shown f payload) view)
