use Rattle.std.proofs.Common.{◌≡◌, false, nat_le, if◌then◌else◌, ◌++◌, ◌+◌, ◌-◌, ◌≤◌, ℕ, List, length, take, drop, sym, ap, ◌∙◌, arith}
use Rattle.std.proofs.lemmas.List.{take-take, drop-take, take_all, length-drop}
use Rattle.n2k_table.specs.Inner.Padded.{padded_text}
use Rattle.n2k_table.proofs.Begins.{adds_none}
use Rattle.n2k_table.proofs.padded_text.PaddedText.push_from.Goals as goal

pub returns-in-Some-clause-items : goal.returns-in-Some-clause-items
returns-in-Some-clause-items g c =
    let len = c.self.inside.len in
    let prefix = c.self.inside.prefix in
    let from = c.args.from in
    let count = len - from in
    let few : count ≤ 32 = omega (arith, c.if-count-gt-PREFIX_ROOM.false) in
    let inside : from ≤ len = omega (arith, c.requires, ap length c.self.view_is, c.self.invariant.size) in
    let wide = c.in-Some.ensures.cases.same ∙ take-take 32 (33 - from) (drop from prefix) (omega (arith, c.requires.few)) in
    let end : from + count ≡ len = omega (arith, inside) in
    let whole : take len prefix ≡ padded_text len prefix c.self.inside.long.items = c.self.invariant.begins (omega (arith, few, end, c.requires.few)) in
    let text : take count c.in-Some.wide.now ≡ drop from c.args.self.now =
    ap (take count) wide
    ∙ take-take count 32 (drop from prefix) few
    ∙ sym (drop-take from count prefix)
    ∙ ap (λ k. drop from (take k prefix)) end
    ∙ ap (drop from) (whole ∙ c.self.view_is) in
    c.write.ensures.items ∙ ap (λ (t : List ℕ). c.args.line.now.items ++ t) text

pub returns-then-count-gt-PREFIX_ROOM-clause-items : goal.returns-then-count-gt-PREFIX_ROOM-clause-items
returns-then-count-gt-PREFIX_ROOM-clause-items g c =
    let len = c.self.inside.len in
    let long = c.self.inside.long.items in
    let many : nat_le len 32 ≡ false = grind (arith, c.if-count-gt-PREFIX_ROOM.true) in
    let is : long ≡ c.args.self.now = ap (λ t. if t then take len c.self.inside.prefix else long) (sym many) ∙ c.self.view_is in
    let all = take_all (length c.deref.result.now - c.args.from) (drop c.args.from c.deref.result.now) (omega (arith, length-drop c.args.from c.deref.result.now)) in
    adds_none c.reserve.result c.args.line.now.items _ _ _
    (c.in_ok-extend_from_slice.ensures ∙ ap (λ (t : List ℕ). c.args.line.now.items ++ t) (all ∙ ap (drop c.args.from) (c.deref.ensures.value ∙ is)))
    c.reserve.ensures.items c.reserve.ensures.unchanged
