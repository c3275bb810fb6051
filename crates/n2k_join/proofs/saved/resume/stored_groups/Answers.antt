use Rattle.std.proofs.Common.{◌≡◌, ◌+◌, ◌++◌, [], ◌∷◌, false, IfSome, sym, ap, subst, ◌∙◌, arith, is_some}
use Rattle.std.specs.List.{list_any, AllByRecursion}
use Rattle.n2k_table.specs.Table.{kind}
use Rattle.n2k_join.specs.Frames.{same_key}
use Rattle.n2k_join.specs.Open.{Group}
use Rattle.n2k_join.specs.Resumed.{group_holds}
use Rattle.n2k_join.specs.State.{HasParts}
use Rattle.n2k_join.specs.Inner.Apart.{each_new, SomeUnder}
use Rattle.n2k_join.specs.Inner.Slots.{group_at}
use Rattle.n2k_join.specs.Inner.Stored.{key_of}
use Rattle.n2k_join.specs.Inner.Order.{found, listed, IsKept}
use Rattle.n2k_join.proofs.Apart.{keys_in, hold-each_new, key_again, key_listed, stored_kept, stored_left, stored_parts, next_rises}
use Rattle.n2k_join.proofs.Order.{kept-later}
use Rattle.n2k_join.proofs.Listed.{open-found}
use Rattle.n2k_join.proofs.Rising.{none_from}
use Rattle.n2k_join.proofs.saved.resume.stored_groups.Goals as goal

pub loop-group-init : goal.loop-group-init
loop-group-init c = record {
  left = ap (λ gs. each_new (kind c.args.table.now) (keys_in gs) c.args.groups.now) c.new-stored.ensures.listed ∙ hold-each_new (kind c.args.table.now) c.args.groups.now;
  kept = c.new-stored.ensures.listed;
  parts = subst (AllByRecursion HasParts) (sym c.new-stored.ensures.listed) tt;
  rises = (1, (c.new-stored.ensures.kept 1 (omega arith), (omega arith, c.requires)));
}

pub returns-then-contains_key-clause-value : goal.returns-then-contains_key-clause-value
unfolding same_key
returns-then-contains_key-clause-value c = grind (arith, open-found, keys_in, key_listed, key_again)

pub insert-requires-clause-new : goal.insert-requires-clause-new
unfolding same_key
insert-requires-clause-new c = none_from _ (sym c.contains_key.ensures ∙ c.if-contains_key.false)

pub insert-requires-clause-kept : goal.insert-requires-clause-kept
insert-requires-clause-kept c = grind (arith, next_rises c.loop-group.invariant.rises.0 c.args.lines c.loop-group.group-index c.args.groups.now c.group-item.result (omega arith) c.group-item.is c.loop-group.invariant.rises.1.1.1, kept-later)

pub loop-group-preserved : goal.loop-group-preserved
unfolding same_key
loop-group-preserved c =
    let k = c.in_ok-key.key in
    let v = c.in_ok-key.open in
    let s = c.loop-group.stored in
    let gs = c.args.groups.now in
    let g = c.group-item.result in
    let i = c.loop-group.group-index in
    let taken = subst (λ o. SomeUnder group_at o (group_holds (kind c.args.table.now) g) g) c.in_ok-key.ensures.ok_part c.stored_group.ensures.value in
    let parts = subst (λ o. IfSome o (λ e. HasParts (group_at e))) c.in_ok-key.ensures.ok_part c.stored_group.ensures.parts in
    let first : v.first ≡ g.first = ap (λ (h : Group). h.first) taken.1 in
    let r = c.loop-group.invariant.rises in
    let next = next_rises r.0 c.args.lines i gs g (omega arith) c.group-item.is r.1.1.1 in
    let at = open-found r.0 s r.1.0 k in
    let none : is_some (found s.groups.entries k) ≡ false = sym c.contains_key.ensures ∙ c.if-contains_key.false in
    let unseen = ap (λ (g : Group). list_any (same_key g.key) (keys_in (listed s))) (sym taken.1) ∙ key_listed (key_of k) (listed s) ∙ at ∙ none in
    let last : listed c.insert.new.self ≡ listed s ++ g ∷ [] = c.in_ok-insert.ensures.added ∙ ap (λ h. listed s ++ h ∷ []) taken.1 in
    record {
      left = stored_left (kind c.args.table.now) gs i g (omega arith) c.group-item.is (listed s) (listed c.insert.new.self) unseen last taken.0 c.loop-group.invariant.left;
      kept = stored_kept (kind c.args.table.now) gs i g (omega arith) c.group-item.is (listed s) (listed c.insert.new.self) unseen last c.loop-group.invariant.kept;
      parts = stored_parts (kind c.args.table.now) gs i g (omega arith) c.group-item.is (listed s) (listed c.insert.new.self) unseen last c.loop-group.invariant.parts (subst HasParts taken.1 parts);
      rises = (g.first + 1, (subst (λ n. IsKept (n + 1) c.insert.new.self) first c.in_ok-insert.ensures.kept, (omega (arith, next.1.0), next.1.1)));
    }

pub returns-clause-kept : goal.returns-clause-kept
returns-clause-kept c = grind (arith, kept-later)
