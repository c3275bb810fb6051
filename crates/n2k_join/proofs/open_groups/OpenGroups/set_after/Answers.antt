use Rattle.std.proofs.Common.{refl, sym, arith}
use Rattle.std.proofs.lemmas.Bool.{cases_lt}
use Rattle.std.proofs.lemmas.Option.{slice_get_within}
use Rattle.n2k_join.proofs.Order.{entry-at, told-after, told-first}
use Rattle.n2k_join.proofs.open_groups.OpenGroups.set_after.Goals as goal

pub returns-in-Some : goal.returns-in-Some
returns-in-Some c =
    let g = c.args.self.now in
    let l = c.in-Some.linked.now in
    let e = entry-at g.groups.entries c.args.at l (sym c.in-Some.ensures.value) in
    told-after g c.args.at e.0 l (record l { after = c.args.after }) e.1 (λ is. omega (arith, is, c.requires.few, slice_get_within g.groups.entries c.args.at (e.0, l) e.1)) refl _ refl refl refl refl

pub returns-in-None : goal.returns-in-None
returns-in-None c = grind (arith, told-first, cases_lt)
