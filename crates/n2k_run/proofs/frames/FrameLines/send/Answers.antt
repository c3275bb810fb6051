use Rattle.std.proofs.Common.{◌≡◌, ◌++◌, refl, ap, ◌∙◌, Some, option_map, arith}
use Rattle.n2k_wire.specs.declared.entry.BadCause.TheVariants.{Time, Address}
use Rattle.n2k_table.specs.Table.{kind}
use Rattle.n2k_join.specs.Splitter.{sequences}
use Rattle.n2k_run.specs.declared.frames.Outcome.TheVariants.{Bad}
use Rattle.n2k_run.specs.FramesOut.{fault_cause, interface_of}
use Rattle.n2k_join.proofs.InPlaceFrames.{frame_at}
use Rattle.n2k_run.proofs.SentFrames.{line_of, no_line, not_sent, one_more, seen, sent, split_of}
use Rattle.n2k_run.proofs.frames.FrameLines.send.Goals as goal

pub returns-in-NoStamp-clause-sent : goal.returns-in-NoStamp-clause-sent
returns-in-NoStamp-clause-sent c =
    let i = interface_of c.args.self.now.interface in
    let m = c.args.message.now in
    let outcome : Some (Bad Time) ≡ option_map Bad (fault_cause c.in-Err.fault) = rw c.in-NoStamp.is refl in
    not_sent (kind c.args.self.now.table.now) i m _ _ c.in-Err.fault (Bad Time) c.args.text.now.items (split_of _ _ c.in-Ok.ensures.refused) c.in-Ok.ensures.raised
    (no_line i m c.in-Err.fault (Bad Time) outcome (λ payload. rw c.requires at (c.in-Err.ensures.fault payload))) outcome

pub returns-in-NoId-clause-sent : goal.returns-in-NoId-clause-sent
returns-in-NoId-clause-sent c =
    let i = interface_of c.args.self.now.interface in
    let m = c.args.message.now in
    let outcome : Some (Bad Address) ≡ option_map Bad (fault_cause c.in-Err.fault) = rw c.in-NoId.is refl in
    not_sent (kind c.args.self.now.table.now) i m _ _ c.in-Err.fault (Bad Address) c.args.text.now.items (split_of _ _ c.in-Ok.ensures.refused) c.in-Ok.ensures.raised
    (no_line i m c.in-Err.fault (Bad Address) outcome (λ payload. rw c.requires at (c.in-Err.ensures.fault payload))) outcome

pub loop-number-preserved : goal.loop-number-preserved
loop-number-preserved c =
    let i = interface_of c.args.self.now.interface in
    let m = c.args.message.now in
    let bytes = c.data.result.now in
    let before = c.loop-number.invariant in
    let frame = frame_at _ m _ c.loop-number.number c.in-Ok.frames bytes c.in-Ok.ensures.frames c.data.ensures.value in
    record {
      lines = before.lines;
      splitter = before.splitter;
      head = before.head;
      text = one_more i c.in-Ok.frames c.loop-number.number (record m { payload = bytes }) c.args.text.now.items _ _ frame before.text (c.in_ok-push_line.ensures.adds ∙ ap (λ t. c.loop-number.text.items ++ t) (line_of i m c.set_head.new.head bytes before.head));
    }

pub returns-clause-sent : goal.returns-clause-sent
returns-clause-sent c =
    let i = interface_of c.args.self.now.interface in
    let m = c.args.message.now in
    sent (kind c.args.self.now.table.now) i m _ _ c.in-Ok.frames c.loop-number.number c.args.text.now.items _ c.in-Ok.ensures.frames (split_of _ _ c.in-Ok.ensures.refused)
    (ap sequences c.loop-number.invariant.splitter ∙ c.in-Ok.ensures.raised) (seen i m c.set_head.new.head c.loop-number.invariant.head)
    (omega (arith, c.loop-number-test.false, c.count-number-end.ensures.value)) c.loop-number.invariant.text
