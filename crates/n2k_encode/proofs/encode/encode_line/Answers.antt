use Rattle.n2k_encode.proofs.Sound.{encoded_line}
use Rattle.n2k_encode.proofs.encode.encode_line.Goals as goal

pub returns-clause-reads_back : goal.returns-clause-reads_back
returns-clause-reads_back c = encoded_line c.args.table.now c.args.nearest c.args.line.now _ c.encode_object.result c.in-Ok.ensures.object c.encode_object.ensures
