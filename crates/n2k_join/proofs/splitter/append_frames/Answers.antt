use Rattle.std.proofs.Common.{ap, sym, ◌∙◌, Some, arith}
use Rattle.std.proofs.lemmas.Grind.{common_steps}
use Rattle.n2k_join.proofs.InPlaceFrames.{frame_at, pushed}
use Rattle.n2k_join.proofs.splitter.append_frames.Goals as goal

pub loop-number-preserved : goal.loop-number-preserved
loop-number-preserved c =
    let n = c.loop-number.number in
    let is = frame_at (Some c.frames.inside.kind) c.frames.inside.message.now c.frames.inside.sequence n c.args.frames.now c.data-data.result.now (sym c.frames.view_is) c.data-data.ensures.value in
    record {
      frames = pushed c.args.packets.now.items _ _ c.args.frames.now n c.with_data.result (is ∙ ap Some (sym c.with_data.ensures)) c.loop-number.invariant.frames (grind (arith, common_steps));
      room = grind (arith, common_steps);
    }
