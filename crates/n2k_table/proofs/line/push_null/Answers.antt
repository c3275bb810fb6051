use Rattle.n2k_table.proofs.Begins.{adds_two}
use Rattle.n2k_table.proofs.line.push_null.Goals as goal

pub returns : goal.returns
returns g c = adds_two c.extend_from_slice.result c.args.line.now.items _ _ _ _ c.in_ok-push_key.ensures.items c.extend_from_slice.ensures
