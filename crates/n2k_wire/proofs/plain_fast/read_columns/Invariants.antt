use Rattle.std.proofs.Common.{◌*◌, take}
use Rattle.n2k_wire.specs.Plain.{columns}
use Rattle.n2k_wire.specs.Inner.Plain.{AreRead}
use Rattle.n2k_wire.proofs.plain_fast.read_columns.Given as goal

abbrev pub invariant-loop-i : goal.invariant-loop-i
invariant-loop-i l = AreRead (columns l.text) (take (8 * l.i) l.bytes) (columns l.rest)
