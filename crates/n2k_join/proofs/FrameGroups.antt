-- A frame taken into the open groups: its message, the group that it breaks and the groups after it, with and without
-- an open group of its key.
use Rattle.std.proofs.Common.{arith, ◌≡◌, ℕ, Bool, true, false, cond, List, [], ◌∷◌, ◌++◌, refl, sym, ap, ◌∙◌, subst, Some, None, IfSome, option_to_list, filter_map, is_some, append-nil}
use Rattle.std.specs.List.{AllByRecursion, cons_option}
use Rattle.n2k_wire.specs.Packet.{PacketParts}
use Rattle.n2k_join.specs.declared.piece.OpenGroup.{OpenGroup}
use Rattle.n2k_join.specs.declared.piece.FastFrame.{FastFrame}
use Rattle.n2k_join.specs.declared.open_groups.Linked.{Linked}
use Rattle.n2k_join.specs.declared.open_groups.OpenGroups.{OpenGroups}
use Rattle.n2k_join.specs.Frames.{same_key, Frame}
use Rattle.n2k_join.specs.Groups.{complete, data_of, has_number}
use Rattle.n2k_join.specs.Messages.{message_of, broken_of}
use Rattle.n2k_join.specs.Open.{Group, pieces_of, group_of}
use Rattle.n2k_join.specs.State.{held_frame, held_of, IsOpen, AreApart}
use Rattle.n2k_join.specs.Inner.Stored.{rejects, piece_of, frame_of, with_frame, of_the_key, started, taken, joined, opened, groups_after, gained, lost, message_if}
use Rattle.n2k_join.specs.Inner.Slots.{slot_of, group_in}
use Rattle.n2k_join.specs.Inner.Order.{item_at, groups_at, listed}
use Rattle.n2k_join.proofs.Listed.{Here}
use Rattle.n2k_join.proofs.SlotLemmas.{carried-slots}
use Rattle.n2k_join.proofs.JoinLemmas.{taken-others, rejects-missing, with_piece, complete-with_frame, data_of-with_frame, broken-held, message-begun, groups-begun}
use Rattle.n2k_join.proofs.Keys.{same_key-refl, same_key-sym, same_key-true}
use Rattle.n2k_join.proofs.Rising.{none_from, passes_none, all-map}

-- no group of the frame's key is open
pub none-after : (order : Bool) (x : Frame) (gs : List Group) → of_the_key x.key gs ≡ None → groups_after order gs x ≡ gs ++ option_to_list (started x)
unfolding groups_after
none-after order x gs none = grind (arith, taken-others order x gs (passes_none (λ (g : Group). same_key x.key g.key) gs none))

-- a property of each holds of one
all-at : (P : Group → Type 0) (fs : List Group) (g : Group) (gs : List Group) → AllByRecursion P (fs ++ g ∷ gs) → P g
all-at P [] g gs all = all.0
all-at P (f ∷ fs) g gs all = all-at P fs g gs all.1

module _ (x : Frame) (g : Group) (gs : List Group) (of : same_key x.key g.key ≡ true) where
  other-key : (f : Group) → same_key f.key g.key ≡ false → same_key x.key f.key ≡ false
  other-key f e = same_key-sym x.key f.key ∙ ap (same_key f.key) (same_key-true x.key g.key of) ∙ e

  key-at : (fs : List Group) → AreApart (fs ++ g ∷ gs) → of_the_key x.key (fs ++ g ∷ gs) ≡ Some g
  key-at [] apart = ap (λ b. cond b (Some g) (of_the_key x.key gs)) of
  key-at (f ∷ fs) apart =
      ap (λ b. cond b (Some f) (of_the_key x.key (fs ++ g ∷ gs))) (other-key f (all-at (λ h. same_key f.key h.key ≡ false) fs g gs apart.0)) ∙ key-at fs apart.1

  -- the group of the frame's key goes its way, and the others stay
  taken-at : (order : Bool) (fs : List Group) → AreApart (fs ++ g ∷ gs) → filter_map (taken order x) (fs ++ g ∷ gs) ≡ fs ++ (option_to_list (joined order x g) ++ gs)
  taken-at order [] apart = grind (arith, taken-others, all-map, same_key-true)
  taken-at order (f ∷ fs) apart =
      ap (λ b. cons_option (cond b (joined order x f) (Some f)) (filter_map (taken order x) (fs ++ g ∷ gs))) (other-key f (all-at (λ h. same_key f.key h.key ≡ false) fs g gs apart.0))
      ∙ ap (λ hs. f ∷ hs) (taken-at order fs apart.1)

-- ---- a frame whose key has an open group

module _ (order : Bool) (line : ℕ) (packet : PacketParts) (frame : FastFrame) (g : OpenGroups) (at : ℕ) (l : Linked) where
  abbrev pub x : Frame
  x = frame_of line packet frame

  abbrev pub the_group : Group
  the_group = group_in x.key l.group

  abbrev all : List Group
  all = listed g

  module _ (h : Here g frame.key at l) (apart : AreApart (listed g)) where
    abbrev fs : List Group
    fs = groups_at (item_at g) h.xs

    abbrev gs : List Group
    gs = groups_at (item_at g) h.ys

    is : all ≡ fs ++ the_group ∷ gs
    is = h.listed

    here-is : of_the_key x.key all ≡ Some the_group
    here-is = ap (of_the_key x.key) is ∙ key-at x the_group gs (same_key-refl x.key) fs (subst AreApart is apart)

    after-is : groups_after order all x ≡ (fs ++ (option_to_list (joined order x the_group) ++ gs)) ++ option_to_list (opened order x (Some the_group))
    unfolding groups_after
    after-is = grind (arith, taken-at, same_key-refl, here-is)

    -- the code's test of the group is the definition's test of the key's group
    pub rejects-here : (b : Bool) → rejects order x.number the_group ≡ b → IfSome (of_the_key x.key all) (λ (o : Group). rejects order x.number o ≡ b)
    rejects-here b e = subst (λ o. IfSome o (λ (g : Group). rejects order x.number g ≡ b)) (sym here-is) e

    pub says-here : (b : Bool) → IfSome (of_the_key x.key all) (λ (o : Group). rejects order x.number o ≡ b) → rejects order x.number the_group ≡ b
    says-here b e = subst (λ o. IfSome o (λ (g : Group). rejects order x.number g ≡ b)) here-is e

    pub none-lost : rejects order x.number the_group ≡ false → None ≡ lost order x (of_the_key x.key all)
    none-lost e = sym (ap (lost order x) here-is ∙ ap (λ b. cond b (Some (broken_of x.key (held_of the_group))) None) e)

    pub empty-here : rejects order x.number the_group ≡ false → slot_of l.group x.number ≡ None
    empty-here free = none_from (slot_of l.group x.number) (sym (ap is_some (carried-slots x.key l.group x.number frame.piece.small)) ∙ rejects-missing order x.number the_group free)

    module _ (fit : AllByRecursion IsOpen all) where
      fit_here : IsOpen the_group
      fit_here = all-at IsOpen fs the_group gs (subst (AllByRecursion IsOpen) is fit)

      -- the frame joins it
      module _ (w : OpenGroup) (free : rejects order x.number the_group ≡ false) (taken_in : group_in x.key w ≡ record the_group { pieces = pieces_of (held_of the_group ++ held_frame the_group (piece_of frame.piece) ∷ []) }) where
        abbrev grown_group : Group
        grown_group = group_in x.key w

        missing : has_number x.number (held_of the_group) ≡ false
        missing = rejects-missing order x.number the_group free

        grown : grown_group ≡ with_frame the_group x
        grown = taken_in ∙ with_piece the_group x

        complete-grown : complete (held_of grown_group) ≡ complete (held_of the_group ++ x ∷ [])
        complete-grown = ap (λ (g : Group). complete (held_of g)) grown ∙ complete-with_frame the_group x fit_here missing frame.piece.small

        data-grown : data_of (held_of grown_group) ≡ data_of (held_of the_group ++ x ∷ [])
        data-grown = ap (λ (g : Group). data_of (held_of g)) grown ∙ data_of-with_frame the_group x fit_here missing frame.piece.small

        pub joins-message : (b : Bool) → complete (held_of grown_group) ≡ b
            → cond b (Some (record { stamp = x.stamp; id = x.id; payload = data_of (held_of grown_group) })) None ≡ gained order x (of_the_key x.key all)
        joins-message b e =
            (λ j. cond b (Some (record { stamp = x.stamp; id = x.id; payload = data-grown j })) None)
            ∙ sym (ap (λ b. cond b (Some (message_of x (held_of the_group ++ x ∷ []))) None) (sym complete-grown ∙ e))
            ∙ sym (ap (gained order x) here-is ∙ ap (λ b. cond b (message_if x (x ∷ [])) (message_if x (held_of the_group ++ x ∷ []))) free)

        -- the grown group stays open, or is complete and is removed
        pub joins-groups : (b : Bool) → complete (held_of grown_group) ≡ b → fs ++ (option_to_list (cond b None (Some grown_group)) ++ gs) ≡ groups_after order all x
        joins-groups b e = grind (arith, complete-grown, grown, after-is, append-nil)

      -- the frame ends it, and begins another
      module _ (w : OpenGroup) (barred : rejects order x.number the_group ≡ true) (begun : group_in x.key w ≡ group_of x.key (x ∷ [])) where
        abbrev fresh_group : Group
        fresh_group = group_in x.key w

        pub reopens-message : (b : Bool) → complete (held_of fresh_group) ≡ b
            → cond b (Some (record { stamp = x.stamp; id = x.id; payload = data_of (held_of fresh_group) })) None ≡ gained order x (of_the_key x.key all)
        reopens-message b e =
            sym (ap (λ b. cond b (Some (message_of x (held_of fresh_group))) None) e)
            ∙ message-begun x fresh_group frame.piece.small begun
            ∙ sym (ap (gained order x) here-is ∙ ap (λ b. cond b (message_if x (x ∷ [])) (message_if x (held_of the_group ++ x ∷ []))) barred)

        pub breaks : Some (record { pgn = x.key.pgn; src = x.key.src; dst = x.key.dst; seq = x.key.sequence; first = l.group.first }) ≡ lost order x (of_the_key x.key all)
        breaks =
            ap Some (broken-held the_group x.key fit_here refl)
            ∙ sym (ap (lost order x) here-is ∙ ap (λ b. cond b (Some (broken_of x.key (held_of the_group))) None) barred)

        -- which is complete at once, or goes last
        pub reopens-groups : (b : Bool) → complete (held_of fresh_group) ≡ b → (fs ++ gs) ++ cond b [] (fresh_group ∷ []) ≡ groups_after order all x
        reopens-groups b e =
            let begins : cond b [] (fresh_group ∷ []) ≡ option_to_list (started x) = ap (λ b. cond b [] (fresh_group ∷ [])) (sym e) ∙ groups-begun x fresh_group frame.piece.small begun in
            sym (after-is ∙ (λ i. (fs ++ (option_to_list (cond (barred i) None (cond (complete (held_of the_group ++ x ∷ [])) None (Some (with_frame the_group x)))) ++ gs)) ++ option_to_list (cond (barred i) (started x) None)) ∙ ap (λ hs. (fs ++ gs) ++ hs) (sym begins))
