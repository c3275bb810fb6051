use Rattle.std.proofs.Common.{sym, ◌∙◌, arith}
use Rattle.n2k_wire.proofs.FastFrames.{entry_line, entry_of}
use Rattle.n2k_wire.proofs.candump_fast.read_candump_fast.Goals as goal

pub returns-clause-entry : goal.returns-clause-entry
returns-clause-entry c packing =
    let line = c.args.line.now in
    let is = entry_of line c.in_ok-stamp.stamp c.in_ok-stamp.text.now c.in_ok-identifier.text.now c.in_ok-data.data c.in_ok-identifier.identifier
    c.in_ok-stamp.ensures.value c.in_ok-identifier.ensures.value c.in_ok-data.ensures.frame c.in_ok-data.ensures.value in
    c.set_frame_fast.ensures.value ∙ (rw c.split_id.ensures.value (sym is)) ∙ sym (entry_line line c.in_ok-stamp.stamp c.in_ok-stamp.text.now packing c.in_ok-stamp.ensures.value (omega arith))
