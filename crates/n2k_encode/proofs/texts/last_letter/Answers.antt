use Rattle.std.proofs.Common.{◌≡◌, ◌-◌, ◌++◌, ◌∷◌, [], length, arith, sym}
use Rattle.std.specs.Str.{chars}
use Rattle.std.proofs.lemmas.Iterator.{YieldsList-from_chars}
use Rattle.std.proofs.lemmas.Iterator.Consumers.{YieldsList-turn, YieldsList-end}
use Rattle.std.proofs.lemmas.List.{length_push}
use Rattle.n2k_encode.proofs.Prefixes.{at_place, last_found}
use Rattle.n2k_encode.proofs.texts.last_letter.Goals as goal

pub loop-letter-preserved : goal.loop-letter-preserved
loop-letter-preserved c =
    let cs = chars c.args.text.now in
    let t = YieldsList-turn (YieldsList-from_chars c.args.text.now c.utf8.text cc) c.loop-letter.yielded _ c.loop-letter.yielded_by _ _ c.in-Some.letter c.in-Some.is c.next.ensures.steps in
    let n = length_push c.loop-letter.yielded c.in-Some.letter in
    let place : length (c.loop-letter.yielded ++ c.in-Some.letter ∷ []) - 1 ≡ length c.loop-letter.yielded = omega (arith, n) in
    (λ none. absurd (omega (arith, n, none)), λ some. rw place (sym (at_place cs (length c.loop-letter.yielded) c.in-Some.letter t.0 t.1)))

pub returns : goal.returns
returns c =
    let t = YieldsList-end (YieldsList-from_chars c.args.text.now c.utf8.text cc) c.loop-letter.yielded _ c.loop-letter.yielded_by _ _ c.in-None.is c.next.ensures.steps in
    last_found (chars c.args.text.now) (length c.loop-letter.yielded) c.loop-letter.last t.1 c.loop-letter.invariant.0 c.loop-letter.invariant.1
