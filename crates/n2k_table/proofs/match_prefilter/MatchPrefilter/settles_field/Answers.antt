use Rattle.std.proofs.Common.{◌≡◌, ◌+◌, ◌/◌, ◌^◌, ◌≤◌, bit_and, Some, sym, ap, ◌∙◌, arith}
use Rattle.std.proofs.lemmas.Bool.{eqb-true}
use Rattle.n2k_table.specs.Field.{FieldParts}
use Rattle.n2k_table.specs.Inner.Kept.{IsWordMask}
use Rattle.n2k_table.proofs.MatchPrefilters.{settled_field}
use Rattle.n2k_table.proofs.match_prefilter.MatchPrefilter.settles_field.Goals as goal

pub returns-then-self-field : goal.returns-then-self-field
returns-then-self-field c = λ same payload enough there.
    let f = c.args.field.now in
    let p = c.args.self.now in
    let mask = c.in-Some-Some.mask in
    let value = c.in-Some-Some.value in
    let view = c.field.view_is in
    let at : c.field.inside.at ≡ f.at = ap (λ (g : FieldParts). g.at) view in
    let bits : c.field.inside.bits ≡ f.bits = ap (λ (g : FieldParts). g.bits) view in
    let kept : IsWordMask (Some mask) c.field.inside.at c.field.inside.bits = rw c.in-Some-Some.is-1 at c.field.invariant.mask in
    let inside : f.at + f.bits ≤ 64 = omega (arith, kept.1, at, bits) in
    let all : bit_and (p.mask / 2 ^ c.field.inside.at) mask ≡ mask = grind (arith, c.if-self-field.true) in
    let wanted : bit_and (p.wanted / 2 ^ c.field.inside.at) mask ≡ value = eqb-true _ _ same in
    settled_field payload f f.match_value value p.mask p.wanted (ap (λ (g : FieldParts). g.match_value) (sym view) ∙ c.in-Some-Some.is-0) inside enough there
    (rw (kept.2, at, bits) at all) (rw (kept.2, at, bits) at wanted)
