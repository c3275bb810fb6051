use Rattle.std.proofs.Common.{◌≡◌, ◌++◌, take}
use Rattle.n2k_run.specs.FramesOut.{frame_texts, interface_of}
use Rattle.n2k_run.specs.Inner.Sending.{BeginsLines}
use Rattle.n2k_run.proofs.frames.FrameLines.send.Given as goal

abbrev pub invariant-loop-number : goal.invariant-loop-number
invariant-loop-number l = record {
  lines : l.sender.lines ≡ l.initial.sender.lines;
  splitter : l.sender.splitter ≡ l.initial.sender.splitter;
  head : BeginsLines (interface_of l.self.interface) l.message l.sender.head;
  text : l.text.items ≡ l.initial.text.items ++ frame_texts (interface_of l.self.interface) (take l.number l.frames);
}
