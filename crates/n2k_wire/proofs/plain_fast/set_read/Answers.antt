use Rattle.std.proofs.Common.{refl}
use Rattle.n2k_wire.proofs.plain_fast.set_read.Goals as goal

pub returns-clause-value : goal.returns-clause-value
returns-clause-value c = rw (c.in_ok-read_columns.ensures, c.set_packed.ensures.value) refl
