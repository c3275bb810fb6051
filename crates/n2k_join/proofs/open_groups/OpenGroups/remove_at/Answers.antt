use Rattle.std.proofs.Common.{◌≡◌, ◌<◌, ◌%◌, slice_set, length, refl, sym, subst, ◌∙◌, arith}
use Rattle.std.proofs.lemmas.Option.{slice_get_within}
use Rattle.n2k_join.specs.declared.piece.FrameKey.{FrameKey}
use Rattle.n2k_join.specs.declared.open_groups.Linked.{Linked}
use Rattle.n2k_join.specs.declared.open_groups.OpenGroups.{OpenGroups}
use Rattle.n2k_join.specs.Inner.Places.{nowhere, put}
use Rattle.n2k_join.specs.Inner.Order.{IsPlace, after_of, before_of, AreRelinked}
use Rattle.n2k_join.proofs.Order.{beside-at, beside-moved, removed-left, ended-last, moved-places, gone-last, gone-moved, both-told}
use Rattle.n2k_join.proofs.Listed.{place-split}
use Rattle.n2k_join.proofs.open_groups.OpenGroups.remove_at.Goals as goal

pub set_after-requires : goal.set_after-requires
set_after-requires c =
    let g = c.args.self.now in
    let s = c.unlink.new.self in
    let t : OpenGroups = record { groups = c.swap_remove_index.new.self; first = s.first; last = s.last; noted = slice_set s.noted c.note_of.result (c.args.at % 65536) } in
    let m = length t.groups.entries in
    let low : c.args.at < length s.groups.entries = omega (arith, c.requires.within, c.unlink.ensures.count) in
    let left = removed-left s.groups.entries t.groups.entries c.args.at low c.swap_remove_index.result c.swap_remove_index.ensures.entry c.swap_remove_index.ensures.entries c.swap_remove_index.ensures.len in
    let e : FrameKey × Linked = (c.in-Some.key.now, c.in-Some.moved.now) in
    let less = slice_get_within t.groups.entries c.args.at e (sym c.in-Some.ensures.entry) in
    let at = place-split c.requires.kept.0 g c.requires.kept.1 c.args.at c.requires.within in
    let places = moved-places c.requires.kept.0 g s c.args.at at.xs at.ys c.requires.kept.1 c.requires.within at.is c.unlink.ensures t m left refl refl less in
    let is = beside-at (λ l. l.before) t.last t.groups.entries c.args.at e (λ q. omega (arith, q, c.requires.within, c.requires.kept.1.few)) (sym c.in-Some.ensures.entry) in
    record {
      few = omega (arith, left.was, c.unlink.ensures.count, c.requires.kept.1.few);
      place = subst (IsPlace m) (sym (beside-moved c.requires.kept.0 g s c.args.at at.xs at.ys c.requires.kept.1 c.requires.within at.is c.unlink.ensures t m left refl refl (λ l. l.before) s.last t.last less) ∙ is) places.0;
    }

pub set_before-requires : goal.set_before-requires
set_before-requires c =
    let g = c.args.self.now in
    let s = c.unlink.new.self in
    let t : OpenGroups = record { groups = c.swap_remove_index.new.self; first = s.first; last = s.last; noted = slice_set s.noted c.note_of.result (c.args.at % 65536) } in
    let m = length t.groups.entries in
    let low : c.args.at < length s.groups.entries = omega (arith, c.requires.within, c.unlink.ensures.count) in
    let left = removed-left s.groups.entries t.groups.entries c.args.at low c.swap_remove_index.result c.swap_remove_index.ensures.entry c.swap_remove_index.ensures.entries c.swap_remove_index.ensures.len in
    let e : FrameKey × Linked = (c.in-Some.key.now, c.in-Some.moved.now) in
    let less = slice_get_within t.groups.entries c.args.at e (sym c.in-Some.ensures.entry) in
    let at = place-split c.requires.kept.0 g c.requires.kept.1 c.args.at c.requires.within in
    let places = moved-places c.requires.kept.0 g s c.args.at at.xs at.ys c.requires.kept.1 c.requires.within at.is c.unlink.ensures t m left refl refl less in
    let is = beside-at (λ l. l.after) t.first t.groups.entries c.args.at e (λ q. omega (arith, q, c.requires.within, c.requires.kept.1.few)) (sym c.in-Some.ensures.entry) in
    record {
      few = omega (arith, c.set_after.ensures.count, left.was, c.unlink.ensures.count, c.requires.kept.1.few);
      place = subst (λ n. IsPlace n e.1.after) (sym c.set_after.ensures.count) (subst (IsPlace m) (sym (beside-moved c.requires.kept.0 g s c.args.at at.xs at.ys c.requires.kept.1 c.requires.within at.is c.unlink.ensures t m left refl refl (λ l. l.after) s.first t.first less) ∙ is) places.1);
    }

pub returns-in-Some : goal.returns-in-Some
returns-in-Some c =
    let g = c.args.self.now in
    let s = c.unlink.new.self in
    let t : OpenGroups = record { groups = c.swap_remove_index.new.self; first = s.first; last = s.last; noted = slice_set s.noted c.note_of.result (c.args.at % 65536) } in
    let m = length t.groups.entries in
    let low : c.args.at < length s.groups.entries = omega (arith, c.requires.within, c.unlink.ensures.count) in
    let left = removed-left s.groups.entries t.groups.entries c.args.at low c.swap_remove_index.result c.swap_remove_index.ensures.entry c.swap_remove_index.ensures.entries c.swap_remove_index.ensures.len in
    let e : FrameKey × Linked = (c.in-Some.key.now, c.in-Some.moved.now) in
    let less = slice_get_within t.groups.entries c.args.at e (sym c.in-Some.ensures.entry) in
    let inside : c.args.at ≡ nowhere → ⊥ = λ q. omega (arith, q, c.requires.within, c.requires.kept.1.few) in
    let told : AreRelinked t c.set_before.new.self (put (before_of t c.args.at) c.args.at (after_of t)) (put (after_of t c.args.at) c.args.at (before_of t)) =
    subst (λ q. AreRelinked t c.set_before.new.self (put q c.args.at (after_of t)) (put (after_of t c.args.at) c.args.at (before_of t))) (sym (beside-at (λ l. l.before) t.last t.groups.entries c.args.at e inside (sym c.in-Some.ensures.entry)))
    (subst (λ q. AreRelinked t c.set_before.new.self (put e.1.before c.args.at (after_of t)) (put q c.args.at (before_of t))) (sym (beside-at (λ l. l.after) t.first t.groups.entries c.args.at e inside (sym c.in-Some.ensures.entry)))
    (both-told t c.set_after.new.self c.set_before.new.self e.1.before c.args.at e.1.after c.args.at c.set_after.ensures c.set_before.ensures)) in
    record {
      gone = λ xs ys is. (gone-moved c.requires.kept.0 g s c.args.at xs ys c.requires.kept.1 c.requires.within is c.unlink.ensures t m left refl refl c.set_before.new.self less told).1;
      kept = λ next kept. let at = place-split next g kept c.args.at c.requires.within in (gone-moved next g s c.args.at at.xs at.ys kept c.requires.within at.is c.unlink.ensures t m left refl refl c.set_before.new.self less told).0;
    }

pub returns-in_default : goal.returns-in_default
returns-in_default c =
    let g = c.args.self.now in
    let s = c.unlink.new.self in
    let t : OpenGroups = record { groups = c.swap_remove_index.new.self; first = s.first; last = s.last; noted = s.noted } in
    let m = length t.groups.entries in
    let low : c.args.at < length s.groups.entries = omega (arith, c.requires.within, c.unlink.ensures.count) in
    let left = removed-left s.groups.entries t.groups.entries c.args.at low c.swap_remove_index.result c.swap_remove_index.ensures.entry c.swap_remove_index.ensures.entries c.swap_remove_index.ensures.len in
    let last : c.args.at ≡ m = ended-last s.groups.entries t.groups.entries c.args.at m low left (sym c.in_default.ensures.entry) in
    record {
      gone = λ xs ys is. (gone-last c.requires.kept.0 g s c.args.at xs ys c.requires.kept.1 c.requires.within is c.unlink.ensures t m left refl refl last).1;
      kept = λ next kept. let at = place-split next g kept c.args.at c.requires.within in (gone-last next g s c.args.at at.xs at.ys kept c.requires.within at.is c.unlink.ensures t m left refl refl last).0;
    }
