use Rattle.std.proofs.Common.{◌≡◌, ◌++◌, [], ◌∷◌, option_map, refl, sym, ap, ◌∙◌, arith}
use Rattle.indexmap.specs.Layout.{length-set_value_at}
use Rattle.std.proofs.lemmas.Option.{same_Some}
use Rattle.n2k_join.specs.declared.piece.FrameKey.{FrameKey}
use Rattle.n2k_join.specs.declared.piece.OpenGroup.{OpenGroup}
use Rattle.n2k_join.specs.declared.open_groups.Linked.{Linked}
use Rattle.n2k_join.specs.Inner.Stored.{key_of}
use Rattle.n2k_join.specs.Inner.Slots.{group_in}
use Rattle.n2k_join.specs.Inner.Places.{nowhere}
use Rattle.n2k_join.specs.Inner.Order.{item, item_at, groups_at}
use Rattle.n2k_join.proofs.Order.{entry-at, last-place, replaced}
use Rattle.n2k_join.proofs.Listed.{place-split}
use Rattle.n2k_join.proofs.open_groups.OpenGroups.replace_at.Goals as goal

pub unlink-requires : goal.unlink-requires
unlink-requires c = record { kept = (c.args.group.first, c.requires.kept); within = c.requires.within }

pub set_after-requires : goal.set_after-requires
set_after-requires c = grind (arith, place-split c.args.group.first c.args.self.now c.requires.kept c.args.at c.requires.within, length-set_value_at, last-place)

pub returns-clause-replaced : goal.returns-clause-replaced
returns-clause-replaced c = λ key old there xs ys is.
    let g = c.args.self.now in
    let s = c.unlink.new.self in
    let v = c.in-Some.linked.now in
    let e = entry-at s.groups.entries c.args.at v (sym c.in-Some.ensures.value) in
    let w : Linked = record { group = c.args.group; before = s.last; after = nowhere } in
    let same : e.0 ≡ key = ap (λ (p : FrameKey × OpenGroup). p.0) (same_Some (e.0, v.group) (key, old) (sym (ap (option_map item) e.1) ∙ c.unlink.ensures.items c.args.at ∙ there)) in
    (replaced c.args.group.first g s c.args.at xs ys c.requires.kept c.requires.within is c.unlink.ensures e.0 v w e.1 _ c.set_after.new.self refl refl refl refl refl refl c.set_after.ensures).1
    ∙ ap (λ k. (groups_at (item_at g) xs ++ groups_at (item_at g) ys) ++ group_in (key_of k) c.args.group ∷ []) same

pub returns-clause-kept : goal.returns-clause-kept
returns-clause-kept c =
    let g = c.args.self.now in
    let s = c.unlink.new.self in
    let at = place-split c.args.group.first g c.requires.kept c.args.at c.requires.within in
    let v = c.in-Some.linked.now in
    let e = entry-at s.groups.entries c.args.at v (sym c.in-Some.ensures.value) in
    let w : Linked = record { group = c.args.group; before = s.last; after = nowhere } in
    (replaced c.args.group.first g s c.args.at at.xs at.ys c.requires.kept c.requires.within at.is c.unlink.ensures e.0 v w e.1 _ c.set_after.new.self refl refl refl refl refl refl c.set_after.ensures).0
