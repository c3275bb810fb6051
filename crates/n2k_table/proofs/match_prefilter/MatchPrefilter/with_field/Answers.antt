use Rattle.std.proofs.Common.{◌≡◌, ◌+◌, ◌≤◌, ◌/◌, ◌%◌, ◌^◌, sym, ap, ◌∙◌, arith}
use Rattle.n2k_table.specs.Bits.{raw}
use Rattle.n2k_table.specs.Field.{FieldParts}
use Rattle.n2k_table.proofs.MatchPrefilters.{has_value, in_word}
use Rattle.n2k_table.proofs.match_prefilter.MatchPrefilter.with_field.Goals as goal

pub returns-in-Some : goal.returns-in-Some
returns-in-Some c = λ payload match before.
    let f = c.args.field.now in
    let at : c.field.inside.at ≡ f.at = ap (λ (g : FieldParts). g.at) c.field.view_is in
    let bits : c.field.inside.bits ≡ f.bits = ap (λ (g : FieldParts). g.bits) c.field.view_is in
    let inside : f.at + f.bits ≤ 64 = omega (arith, c.if-field-le-WORD_BITS.true, at, bits) in
    let word = raw payload 0 64 in
    let here = ap (λ a. word / 2 ^ a % 2 ^ c.field.inside.bits) at ∙ ap (λ n. word / 2 ^ f.at % 2 ^ n) bits ∙ in_word payload f.at f.bits inside in
    c.with_bits.ensures word before (here ∙ has_value payload f f.match_value c.in-Some.value (ap (λ (g : FieldParts). g.match_value) (sym c.field.view_is) ∙ c.in-Some.is) match)
