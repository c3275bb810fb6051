use Rattle.std.proofs.Common.{◌≡◌, refl, ◌+◌, ◌∙◌, sym, ap, subst, true, false, Some, option_map, append-nil}
use Rattle.n2k_join.specs.Open.{Group}
use Rattle.n2k_join.specs.Inner.Stored.{key_of}
use Rattle.n2k_join.specs.Inner.Order.{item, IsKept}
use Rattle.n2k_join.proofs.Order.{kept_next}
use Rattle.n2k_join.proofs.Listed.{here}
use Rattle.n2k_join.proofs.FrameGroups.{says-here, reopens-message, reopens-groups, breaks}
use Rattle.n2k_join.proofs.frame_taking.reopen_at.Goals as goal

pub remove_at-requires : goal.remove_at-requires
remove_at-requires c = record { kept = (c.args.line, c.requires.kept); within = c.requires.place.0 }

pub replace_at-requires : goal.replace_at-requires
replace_at-requires c =
    let first : c.open-fresh.result.first ≡ c.args.line = ap (λ (g : Group). g.first) (c.open-fresh.ensures c.args.packet.now) in
    record { kept = subst (λ n. IsKept n c.args.groups.now) (sym first) c.requires.kept; within = c.requires.place.0 }

pub returns-then-is_complete : goal.returns-then-is_complete
returns-then-is_complete c =
    let order = c.args.in_order in
    let line = c.args.line in
    let packet = c.args.packet.now in
    let frame = c.args.frame.now in
    let g = c.args.groups.now in
    let l = c.index.result.now in
    let h = here line g frame.key c.args.at l c.requires.kept c.requires.place c.index.ensures in
    let barred = says-here order line packet frame g c.args.at l h c.requires.apart true c.requires.there in
    let w = c.open-fresh.result in
    let done = sym (c.is_complete.ensures (key_of frame.key)) ∙ c.if-is_complete.true in
    record {
      same = c.write_message.ensures.same;
      message = ap Some (c.write_message.ensures.message (key_of frame.key)) ∙ reopens-message order line packet frame g c.args.at l h c.requires.apart c.requires.«open» w barred (c.open-fresh.ensures packet) true done;
      broken = ap Some c.broken.ensures ∙ breaks order line packet frame g c.args.at l h c.requires.apart c.requires.«open» w barred (c.open-fresh.ensures packet);
      groups = c.remove_at.ensures.gone h.xs h.ys h.is ∙ sym (append-nil _) ∙ reopens-groups order line packet frame g c.args.at l h c.requires.apart c.requires.«open» w barred (c.open-fresh.ensures packet) true done;
      kept = kept_next line c.remove_at.new.self (c.remove_at.ensures.kept line c.requires.kept);
    }

pub returns : goal.returns
returns c =
    let order = c.args.in_order in
    let line = c.args.line in
    let packet = c.args.packet.now in
    let frame = c.args.frame.now in
    let g = c.args.groups.now in
    let l = c.index.result.now in
    let h = here line g frame.key c.args.at l c.requires.kept c.requires.place c.index.ensures in
    let barred = says-here order line packet frame g c.args.at l h c.requires.apart true c.requires.there in
    let w = c.open-fresh.result in
    let first : w.first ≡ line = ap (λ (g : Group). g.first) (c.open-fresh.ensures packet) in
    let left = sym (c.is_complete.ensures (key_of frame.key)) ∙ c.if-is_complete.false in
    record {
      same = refl;
      message = reopens-message order line packet frame g c.args.at l h c.requires.apart c.requires.«open» w barred (c.open-fresh.ensures packet) false left;
      broken = ap Some c.broken.ensures ∙ breaks order line packet frame g c.args.at l h c.requires.apart c.requires.«open» w barred (c.open-fresh.ensures packet);
      groups = c.replace_at.ensures.replaced frame.key l.group (ap (option_map item) h.entry) h.xs h.ys h.is ∙ reopens-groups order line packet frame g c.args.at l h c.requires.apart c.requires.«open» w barred (c.open-fresh.ensures packet) false left;
      kept = subst (λ n. IsKept (n + 1) c.replace_at.new.self) first c.replace_at.ensures.kept;
    }
