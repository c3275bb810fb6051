use Rattle.n2k_c.proofs.Feeding.{state_of}
use Rattle.n2k_c.proofs.decoder.Decoder.save.Goals as goal

pub returns : goal.returns
returns c = state_of (λ text. text.items) c.args.self.now c.save.result c.save.ensures
