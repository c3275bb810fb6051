use Rattle.std.proofs.Common.{◌≡◌, sym, subst, arith}
use Rattle.n2k_join.specs.Inner.Places.{nowhere, put}
use Rattle.n2k_join.specs.Inner.Order.{after_of, before_of, AreRelinked}
use Rattle.n2k_join.proofs.Order.{beside-at, before-place, after-place, both-told}
use Rattle.n2k_join.proofs.open_groups.OpenGroups.unlink.Goals as goal

pub set_after-requires : goal.set_after-requires
set_after-requires c = grind (arith, beside-at, before-place)

pub set_before-requires : goal.set_before-requires
set_before-requires c = grind (arith, beside-at, after-place)

pub returns : goal.returns
returns c =
    let g = c.args.self.now in
    let inside : c.args.at ≡ nowhere → ⊥ = λ e. omega (arith, e, c.requires.within, c.requires.kept.1.few) in
    let b = beside-at (λ l. l.before) g.last g.groups.entries c.args.at (c.in-Some.field-0-0.now, c.in-Some.linked.now) inside (sym c.in-Some.ensures.entry) in
    let h = beside-at (λ l. l.after) g.first g.groups.entries c.args.at (c.in-Some.field-0-0.now, c.in-Some.linked.now) inside (sym c.in-Some.ensures.entry) in
    subst (λ y. AreRelinked g c.set_before.new.self (put y (after_of g c.args.at) (after_of g)) (put (after_of g c.args.at) y (before_of g))) (sym b)
    (subst (λ y. AreRelinked g c.set_before.new.self (put c.in-Some.linked.now.before y (after_of g)) (put y c.in-Some.linked.now.before (before_of g))) (sym h)
    (both-told g c.set_after.new.self c.set_before.new.self _ _ _ _ c.set_after.ensures c.set_before.ensures))
