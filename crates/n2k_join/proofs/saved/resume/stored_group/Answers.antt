use Rattle.std.proofs.Common.{arith, ◌≡◌, ◌==◌, ℕ, Bool, true, false, List, [], ◌∷◌, length, refl, sym, ap, subst, ◌∙◌}
use Rattle.std.specs.List.{AllByRecursion}
use Rattle.n2k_table.specs.Table.{kind}
use Rattle.n2k_join.specs.Frames.{Key}
use Rattle.n2k_join.specs.Groups.{complete}
use Rattle.n2k_join.specs.Open.{Piece, Group}
use Rattle.n2k_join.specs.Resumed.{pieces_rise, key_holds, is_some_list}
use Rattle.n2k_join.specs.State.{held_of, IsPiece}
use Rattle.n2k_join.specs.Inner.Slots.{group_in}
use Rattle.n2k_join.specs.Inner.Stored.{key_of}
use Rattle.n2k_join.proofs.SavedGroups.{pieces-refused, complete-refused, group-taken}
use Rattle.n2k_join.proofs.saved.resume.stored_group.Goals as goal

pub returns-in_err-stored-clause-value : goal.returns-in_err-stored-clause-value
returns-in_err-stored-clause-value c = grind (arith, pieces-refused (kind c.args.table.now) c.args.group.now (ap (pieces_rise 0) (ap (λ (h : Group). h.pieces) (sym c.group.view_is) ∙ sym c.deref.ensures.value) ∙ c.in_err-stored.ensures.value c.args.group.now.key))

-- the group stored under a key is the group that was read
is_read : (first : ℕ) (key : Key) (ps items : List Piece) (stored g : Group) → stored ≡ record { first = first; key = key; pieces = ps } → ps ≡ items → record { first = first; key = key; pieces = items } ≡ g → stored ≡ g
is_read first key ps items stored g is same view = is ∙ ap (λ ps. let h : Group = record { first = first; key = key; pieces = ps } in h) same ∙ view

some_items : (ps : List Piece) (b : Bool) → b ≡ (length ps == 0) → b ≡ false → is_some_list ps ≡ true
some_items [] b is not_empty = sym (sym is ∙ not_empty)
some_items (p ∷ ps) b is not_empty = refl

pub returns-then-is_complete-clause-value : goal.returns-then-is_complete-clause-value
returns-then-is_complete-clause-value c =
    let key = c.group.inside.key in
    let is = is_read c.group.inside.first key c.deref.result.now c.group.inside.pieces.items (group_in key c.in_ok-stored.stored) c.args.group.now (c.in_ok-stored.ensures.value key).1 c.deref.ensures.value c.group.view_is in
    complete-refused (kind c.args.table.now) c.args.group.now (ap (λ (h : Group). complete (held_of h)) (sym is) ∙ sym (c.is_complete.ensures key) ∙ c.if-is_complete.true)

pub returns-clause-value : goal.returns-clause-value
returns-clause-value c =
    let key = c.group.inside.key in
    let g : Group = c.args.group.now in
    let is = is_read c.group.inside.first key c.deref.result.now c.group.inside.pieces.items (group_in key c.in_ok-stored.stored) g (c.in_ok-stored.ensures.value key).1 c.deref.ensures.value c.group.view_is in
    let held = ap (λ (h : Group). key_holds (kind c.args.table.now) h.key) (sym c.group.view_is) ∙ sym c.key_holds.ensures ∙ c.if-not-key_holds.false in
    let some = ap (λ (h : Group). is_some_list h.pieces) (sym c.group.view_is) ∙ some_items c.group.inside.pieces.items c.is_empty.result (c.is_empty.ensures ∙ ap (λ (n : ℕ). n == 0) c.group.inside.pieces.ok.0) c.if-is_empty.false in
    let rise = ap (λ (h : Group). pieces_rise 0 h.pieces) (sym c.group.view_is) ∙ ap (pieces_rise 0) (sym c.deref.ensures.value) ∙ (c.in_ok-stored.ensures.value key).0 in
    let left = ap (λ (h : Group). complete (held_of h)) (sym is) ∙ sym (c.is_complete.ensures key) ∙ c.if-is_complete.false in (
      group-taken (kind c.args.table.now) g held some rise left,
      ap (λ (k : Key). group_in k c.in_ok-stored.stored) c.stored_key.ensures.value ∙ is,
    )

pub returns-clause-parts : goal.returns-clause-parts
returns-clause-parts c =
    let pieces = ap (λ (h : Group). h.pieces) (c.in_ok-stored.ensures.value (key_of c.stored_key.result)).1 in
    record { key = c.stored_key.ensures.parts; pieces = subst (AllByRecursion IsPiece) (sym pieces) c.in_ok-stored.ensures.parts }
