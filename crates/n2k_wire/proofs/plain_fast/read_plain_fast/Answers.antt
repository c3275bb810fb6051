use Rattle.std.proofs.Common.{arith, refl}
use Rattle.std.proofs.lemmas.Option.{IfSome_then}
use Rattle.n2k_wire.proofs.PlainFast.{entry_read, frame_line}
use Rattle.n2k_wire.proofs.plain_fast.read_plain_fast.Goals as goal

pub returns-in_ok-data-in-Frames-Some-clause-entry : goal.returns-in_ok-data-in-Frames-Some-clause-entry
returns-in_ok-data-in-Frames-Some-clause-entry c =
    let len = rw c.if-len.true at c.in_ok-len.ensures.value in
    rw c.in-Frames-Some.is-0
    (frame_line c.args.line.now c.in_ok-stamp.stamp.now c.in_ok-stamp.text.now c.in_ok-id.text.now c.in_ok-len.text.now c.in-Frames-Some.eight.now c.in_ok-data-in-Frames-Some.data c.in_ok-id.id c.set_stamped.new.out
    c.in_ok-stamp.ensures.line (omega arith) c.in_ok-stamp.ensures.stamp c.in_ok-id.ensures.value len c.in-Frames-Some.ensures.cases.same c.in_ok-data-in-Frames-Some.ensures (omega arith) c.set_stamped.ensures.value)

pub returns-in_default-clause-entry : goal.returns-in_default-clause-entry
returns-in_default-clause-entry c =
    IfSome_then c.set_read.result c.set_read.ensures.value (λ done made.
    entry_read c.args.packing c.args.line.now c.in_ok-stamp.stamp.now c.in_ok-stamp.text.now c.in_ok-id.text.now c.in_ok-len.text.now c.in_ok-id.id c.in_ok-len.len c.set_read.new.out
    c.in_ok-stamp.ensures.line (omega arith) c.in_ok-stamp.ensures.stamp c.in_ok-id.ensures.value c.in_ok-len.ensures.value _ refl made)
