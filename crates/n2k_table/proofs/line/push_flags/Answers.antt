use Rattle.n2k_table.proofs.Begins.{adds_three}
use Rattle.n2k_table.proofs.line.push_flags.Goals as goal

pub returns : goal.returns
returns g c = adds_three c.push-2.result c.args.line.now.items _ _ _ _ _ _ c.in_ok-push.ensures c.in_ok-push_bits.ensures c.push-2.ensures
