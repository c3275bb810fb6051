use Rattle.n2k_table.proofs.Begins.{adds_two}
use Rattle.n2k_table.proofs.line.push_bytes.Goals as goal

pub returns : goal.returns
returns g c = adds_two c.push_pairs.result c.args.line.now.items _ _ _ _ c.in_ok-push_key.ensures.items c.push_pairs.ensures
