use Rattle.n2k_wire.proofs.candump_writer.CandumpLines.new.Goals as goal

pub invariant_of-result : goal.invariant_of-result
invariant_of-result c = (c.requires, rw c.as_bytes.ensures.value at c.after_millis.ensures, c.new.ensures)
