use Rattle.std.proofs.Common.{length, drop, take, sym, ap, ◌∙◌}
use Rattle.n2k_c.specs.Queue.{Waiting, first_line}
use Rattle.n2k_c.proofs.Queues.{prints_next}
use Rattle.n2k_c.proofs.decoder.Decoder.take_next.Goals as goal

pub returns : goal.returns
returns c =
    let e = c.in_ok-put.ensures in
    let line = c.first_line.ensures.value ∙ ap first_line c.bytes.ensures in (
      e.fills,
      prints_next c.args.self.now c.advance.new.self (take c.put.new.wanted c.put.new.room) (e.prefix ∙ line)
          (ap (λ (w : Waiting). w.held) c.advance.ensures ∙ ap (λ n. drop n c.args.self.now.output.held) (e.size ∙ ap length (sym e.prefix))),
    )
