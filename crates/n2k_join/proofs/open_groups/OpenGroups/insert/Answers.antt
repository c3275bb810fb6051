use Rattle.std.proofs.Common.{◌≡◌, ◌<◌, ◌∙◌, ◌++◌, [], ◌∷◌, inr, ap, refl, length, slice_set, ◌%◌, arith, length-append}
use Rattle.std.proofs.lemmas.Option.{none-some, same_Some}
use Rattle.indexmap.specs.IndexMap.{with_value_at}
use Rattle.indexmap.proofs.CallerLemmas.{insert_entry-new}
use Rattle.n2k_join.specs.declared.piece.FrameKey.{FrameKey}
use Rattle.n2k_join.specs.declared.open_groups.Linked.{Linked}
use Rattle.n2k_join.specs.declared.open_groups.OpenGroups.{OpenGroups}
use Rattle.n2k_join.specs.Frames.{same_key}
use Rattle.n2k_join.specs.Inner.Stored.{key_of}
use Rattle.n2k_join.specs.Inner.Places.{nowhere}
use Rattle.n2k_join.proofs.Order.{inserted, before-place, later-place, last-value, last-written}
use Rattle.n2k_join.proofs.open_groups.OpenGroups.insert.Goals as goal

pub unreachable-requires : goal.unreachable-requires
unfolding same_key
unreachable-requires c =
    let g = c.args.self.now in
    let k = c.args.key in
    let v : Linked = record { group = c.new.result; before = g.last; after = nowhere } in
    let pushed : c.insert.new.self.entries ≡ g.groups.entries ++ (k, v) ∷ [] = c.in_ok-insert.ensures.entries ∙ insert_entry-new (λ (a b : FrameKey). same_key (key_of a) (key_of b)) g.groups k v c.requires.new in
    none-some v (c.in_default.ensures.value ∙ last-value g.groups.entries c.insert.new.self.entries k v c.len-at.result c.len-at.ensures.len pushed)

pub set_after-requires : goal.set_after-requires
unfolding same_key
set_after-requires c =
    let g = c.args.self.now in
    let k = c.args.key in
    let v : Linked = record { group = c.new.result; before = g.last; after = nowhere } in
    let l = c.in-Some.linked.now in
    let w : Linked = record { group = c.args.group.now; before = l.before; after = l.after } in
    let pushed : c.insert.new.self.entries ≡ g.groups.entries ++ (k, v) ∷ [] = c.in_ok-insert.ensures.entries ∙ insert_entry-new (λ (a b : FrameKey). same_key (key_of a) (key_of b)) g.groups k v c.requires.new in
    let s = with_value_at c.insert.new.self c.len-at.result w in
    let is = last-written g.groups.entries c.insert.new.self.entries k v w c.len-at.result c.len-at.ensures.len pushed in
    record {
      few = omega (arith, ap length is, length-append g.groups.entries ((k, w) ∷ []), c.len-at.ensures.small, c.len-at.ensures.len);
      place = later-place (length g.groups.entries) (length s.entries) g.last (omega (arith, ap length is, length-append g.groups.entries ((k, w) ∷ []))) (before-place c.args.group.now.first g c.requires.kept nowhere (inr refl));
    }

pub returns : goal.returns
unfolding same_key
returns c =
    let g = c.args.self.now in
    let k = c.args.key in
    let v : Linked = record { group = c.new.result; before = g.last; after = nowhere } in
    let l = c.in-Some.linked.now in
    let w : Linked = record { group = c.args.group.now; before = l.before; after = l.after } in
    let pushed : c.insert.new.self.entries ≡ g.groups.entries ++ (k, v) ∷ [] = c.in_ok-insert.ensures.entries ∙ insert_entry-new (λ (a b : FrameKey). same_key (key_of a) (key_of b)) g.groups k v c.requires.new in
    let same : l ≡ v = same_Some l v (c.in-Some.ensures.value ∙ last-value g.groups.entries c.insert.new.self.entries k v c.len-at.result c.len-at.ensures.len pushed) in
    let s : OpenGroups = record { groups = with_value_at c.insert.new.self c.len-at.result w; first = g.first; last = g.last; noted = slice_set g.noted c.note_of.result (c.len-at.result % 65536) } in
    let is = last-written g.groups.entries c.insert.new.self.entries k v w c.len-at.result c.len-at.ensures.len pushed in
    let few : length s.groups.entries < nowhere = omega (arith, ap length is, length-append g.groups.entries ((k, w) ∷ []), c.len-at.ensures.small, c.len-at.ensures.len) in
    let all = inserted c.args.group.now.first g s c.set_after.new.self k w c.len-at.result c.len-at.ensures.len c.requires.kept is refl refl few (ap (λ (l : Linked). l.before) same) (ap (λ (l : Linked). l.after) same) refl c.set_after.ensures in
    record { added = all.1; kept = all.0; unchanged = tt; still = tt }
