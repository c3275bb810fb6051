use Rattle.std.proofs.Common.{refl, arith, ◌∙◌, ◌++◌, sym, ap, true, false, Some}
use Rattle.indexmap.specs.IndexMap.{with_value_at}
use Rattle.n2k_join.specs.Inner.Stored.{key_of}
use Rattle.n2k_join.proofs.Order.{written, kept_next}
use Rattle.n2k_join.proofs.Listed.{here}
use Rattle.n2k_join.proofs.FrameGroups.{says-here, empty-here, joins-message, joins-groups}
use Rattle.n2k_join.proofs.frame_taking.join_at.Goals as goal

pub take-requires : goal.take-requires
take-requires c =
    let order = c.args.in_order in
    let line = c.args.line in
    let packet = c.args.packet.now in
    let frame = c.args.frame.now in
    let g = c.args.groups.now in
    let l = c.in-Some.linked.now in
    let h = here line g frame.key c.args.at l c.requires.kept c.requires.place (sym c.in-Some.ensures.value) in
    let free = says-here order line packet frame g c.args.at l h c.requires.apart false c.requires.missing in
    empty-here order line packet frame g c.args.at l h c.requires.apart free

pub remove_at-requires : goal.remove_at-requires
remove_at-requires c =
    let line = c.args.line in
    let frame = c.args.frame.now in
    let g = c.args.groups.now in
    let l = c.in-Some.linked.now in
    let h = here line g frame.key c.args.at l c.requires.kept c.requires.place (sym c.in-Some.ensures.value) in
    let w = record l { group = c.take.new.self } in
    let t = record g { groups = with_value_at g.groups c.args.at w } in
    let wrote = written line g c.args.at h.xs h.ys c.requires.kept h.low h.is frame.key l w h.entry refl refl t refl refl refl c.take.ensures.first in
    record { kept = (line, wrote.kept); within = omega (arith, h.low, wrote.count) }

pub returns-then-is_complete : goal.returns-then-is_complete
returns-then-is_complete c =
    let order = c.args.in_order in
    let line = c.args.line in
    let packet = c.args.packet.now in
    let frame = c.args.frame.now in
    let g = c.args.groups.now in
    let l = c.in-Some.linked.now in
    let h = here line g frame.key c.args.at l c.requires.kept c.requires.place (sym c.in-Some.ensures.value) in
    let free = says-here order line packet frame g c.args.at l h c.requires.apart false c.requires.missing in
    let w = record l { group = c.take.new.self } in
    let t = record g { groups = with_value_at g.groups c.args.at w } in
    let wrote = written line g c.args.at h.xs h.ys c.requires.kept h.low h.is frame.key l w h.entry refl refl t refl refl refl c.take.ensures.first in
    let done = sym (c.is_complete.ensures (key_of frame.key)) ∙ c.if-is_complete.true in
    record {
      same = c.write_message.ensures.same;
      message = ap Some (c.write_message.ensures.message (key_of frame.key)) ∙ joins-message order line packet frame g c.args.at l h c.requires.apart c.requires.«open» c.take.new.self free (c.take.ensures.taken (key_of frame.key)) true done;
      groups = c.remove_at.ensures.gone h.xs h.ys (wrote.places ∙ h.is) ∙ (λ i. wrote.prefix i ++ wrote.rear i)
          ∙ joins-groups order line packet frame g c.args.at l h c.requires.apart c.requires.«open» c.take.new.self free (c.take.ensures.taken (key_of frame.key)) true done;
      kept = kept_next line c.remove_at.new.self (c.remove_at.ensures.kept line wrote.kept);
    }

pub returns : goal.returns
returns c =
    let order = c.args.in_order in
    let line = c.args.line in
    let packet = c.args.packet.now in
    let frame = c.args.frame.now in
    let g = c.args.groups.now in
    let l = c.in-Some.linked.now in
    let h = here line g frame.key c.args.at l c.requires.kept c.requires.place (sym c.in-Some.ensures.value) in
    let free = says-here order line packet frame g c.args.at l h c.requires.apart false c.requires.missing in
    let w = record l { group = c.take.new.self } in
    let t = record g { groups = with_value_at g.groups c.args.at w } in
    let wrote = written line g c.args.at h.xs h.ys c.requires.kept h.low h.is frame.key l w h.entry refl refl t refl refl refl c.take.ensures.first in
    let left = sym (c.is_complete.ensures (key_of frame.key)) ∙ c.if-is_complete.false in
    record {
      same = refl;
      message = joins-message order line packet frame g c.args.at l h c.requires.apart c.requires.«open» c.take.new.self free (c.take.ensures.taken (key_of frame.key)) false left;
      groups = wrote.listed ∙ joins-groups order line packet frame g c.args.at l h c.requires.apart c.requires.«open» c.take.new.self free (c.take.ensures.taken (key_of frame.key)) false left;
      kept = kept_next line t wrote.kept;
    }
