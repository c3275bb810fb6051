use Rattle.std.proofs.Common.{◌≡◌, ◌+◌, ◌∙◌, ◌++◌, [], ◌∷◌, sym, ap, subst, cond, arith, append-nil}
use Rattle.n2k_join.specs.Frames.{Frame}
use Rattle.n2k_join.specs.Open.{Group}
use Rattle.n2k_join.specs.Inner.Stored.{key_of, frame_of}
use Rattle.n2k_join.specs.Inner.Slots.{group_in}
use Rattle.n2k_join.specs.Inner.Order.{places, listed, IsKept}
use Rattle.n2k_join.proofs.JoinLemmas.{message-begun, groups-begun, on_err}
use Rattle.n2k_join.proofs.Order.{kept-later}
use Rattle.n2k_join.proofs.Listed.{none-open}
use Rattle.n2k_join.proofs.FrameGroups.{none-after}
use Rattle.n2k_join.proofs.frame_taking.open_last.Goals as goal

pub returns-then-is_complete-clause-message : goal.returns-then-is_complete-clause-message
returns-then-is_complete-clause-message c = grind (arith, none-open c.args.groups.now.groups.entries c.args.frame.now.key c.requires.new (places c.args.groups.now), message-begun (frame_of c.args.line c.args.packet.now c.args.frame.now) (group_in (key_of c.args.frame.now.key) c.open-begun.result) c.args.frame.now.piece.small (c.open-begun.ensures c.args.packet.now))

pub returns-then-is_complete-clause-groups : goal.returns-then-is_complete-clause-groups
returns-then-is_complete-clause-groups c =
    let x : Frame = frame_of c.args.line c.args.packet.now c.args.frame.now in
    let key = key_of c.args.frame.now.key in
    let g = c.args.groups.now in
    let none = none-open g.groups.entries c.args.frame.now.key c.requires.new (places g) in
    sym (append-nil (listed g))
    ∙ ap (λ gs. listed g ++ gs) (sym (ap (λ b. cond b [] (group_in key c.open-begun.result ∷ [])) (sym (c.is_complete.ensures key) ∙ c.if-is_complete.true)) ∙ groups-begun x (group_in key c.open-begun.result) c.args.frame.now.piece.small (c.open-begun.ensures c.args.packet.now))
    ∙ sym (none-after c.args.in_order x (listed g) none)

pub returns-then-is_complete-clause-kept : goal.returns-then-is_complete-clause-kept
returns-then-is_complete-clause-kept c = grind (arith, kept-later)

pub insert-requires-clause-kept : goal.insert-requires-clause-kept
insert-requires-clause-kept c =
    let first : c.open-begun.result.first ≡ c.args.line = ap (λ (g : Group). g.first) (c.open-begun.ensures c.args.packet.now) in
    subst (λ n. IsKept n c.args.groups.now) (sym first) c.requires.kept

pub returns-clause-message : goal.returns-clause-message
returns-clause-message c = grind (arith, none-open c.args.groups.now.groups.entries c.args.frame.now.key c.requires.new (places c.args.groups.now), message-begun (frame_of c.args.line c.args.packet.now c.args.frame.now) (group_in (key_of c.args.frame.now.key) c.open-begun.result) c.args.frame.now.piece.small (c.open-begun.ensures c.args.packet.now))

pub returns-clause-groups : goal.returns-clause-groups
returns-clause-groups c = grind (arith, none-open c.args.groups.now.groups.entries c.args.frame.now.key c.requires.new (places c.args.groups.now), groups-begun (frame_of c.args.line c.args.packet.now c.args.frame.now) (group_in (key_of c.args.frame.now.key) c.open-begun.result) c.args.frame.now.piece.small (c.open-begun.ensures c.args.packet.now), none-after c.args.in_order (frame_of c.args.line c.args.packet.now c.args.frame.now) (listed c.args.groups.now) (none-open c.args.groups.now.groups.entries c.args.frame.now.key c.requires.new (places c.args.groups.now)))

pub returns-clause-kept : goal.returns-clause-kept
returns-clause-kept c =
    let first : c.open-begun.result.first ≡ c.args.line = ap (λ (g : Group). g.first) (c.open-begun.ensures c.args.packet.now) in
    subst (λ n. IsKept (n + 1) c.insert.new.self) first c.in_ok-insert.ensures.kept

pub returns-in_err-insert-clause-still : goal.returns-in_err-insert-clause-still
returns-in_err-insert-clause-still c = grind (arith, on_err)
