use Rattle.std.proofs.Common.{◌≡◌, ◌+◌, ◌++◌, ◌∷◌, [], length, drop, Some, arith, sym, ap, ◌∙◌}
use Rattle.std.specs.List.{flat_map}
use Rattle.std.specs.Str.{chars}
use Rattle.std.proofs.lemmas.Iterator.{YieldsList-from_chars}
use Rattle.std.proofs.lemmas.Iterator.Consumers.{YieldsList-turn, YieldsList-end}
use Rattle.std.proofs.lemmas.List.{length_push, drop_all}
use Rattle.n2k_encode.specs.Texts.{wide_character, within}
use Rattle.n2k_encode.proofs.Prefixes.{letter_next, letter_none, nothing_more}
use Rattle.n2k_encode.proofs.texts.wide_characters.Goals as goal

pub loop-letter-preserved : goal.loop-letter-preserved
loop-letter-preserved c =
    let cs = chars c.args.text.now in
    let t = YieldsList-turn (YieldsList-from_chars c.args.text.now c.utf8.text cc) c.loop-letter.yielded _ c.loop-letter.yielded_by _ _ c.in-Some.letter c.in-Some.is c.next.ensures.steps in
    let n : length (c.loop-letter.yielded ++ c.in-Some.letter ∷ []) ≡ length c.loop-letter.yielded + 1 = length_push c.loop-letter.yielded c.in-Some.letter in
    rw n (letter_next cs (length c.loop-letter.yielded) c.in-Some.letter _ _ t.0 t.1 c.in_ok-push_wide.ensures ∙ c.loop-letter.invariant)

pub returns-in_err-push_wide : goal.returns-in_err-push_wide
returns-in_err-push_wide c =
    let cs = chars c.args.text.now in
    let t = YieldsList-turn (YieldsList-from_chars c.args.text.now c.utf8.text cc) c.loop-letter.yielded _ c.loop-letter.yielded_by _ _ c.in-Some.letter c.in-Some.is c.next.ensures.steps in
    rw c.from_residual.ensures (sym (letter_none cs (length c.loop-letter.yielded) c.in-Some.letter c.loop-letter.bytes.items t.0 t.1 c.in_err-push_wide.ensures) ∙ c.loop-letter.invariant)

pub returns : goal.returns
returns c =
    let t = YieldsList-end (YieldsList-from_chars c.args.text.now c.utf8.text cc) c.loop-letter.yielded _ c.loop-letter.yielded_by _ _ c.in-None.is c.next.ensures.steps in
    let cs = chars c.args.text.now in
    let none : drop (length c.loop-letter.yielded) cs ≡ [] = drop_all (length c.loop-letter.yielded) cs (omega (arith, t.1)) in
    let few = nothing_more c.loop-letter.bytes.items (omega (arith, c.len-count.ensures.value, c.len-count.ensures.fits)) in
    sym few ∙ ap (λ ds. within (Some (c.loop-letter.bytes.items ++ flat_map wide_character ds))) (sym none) ∙ c.loop-letter.invariant
