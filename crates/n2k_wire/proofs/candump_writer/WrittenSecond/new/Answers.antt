use Rattle.n2k_wire.proofs.SharedSeconds.{first_second}
use Rattle.n2k_wire.proofs.candump_writer.WrittenSecond.new.Goals as goal

pub returns : goal.returns
returns c = rw c.second_prefix.ensures first_second
