use Rattle.std.specs.Arc.{arc_slice_items}
use Rattle.sha2.proofs.Facts256.{length-sha256}
use Rattle.n2k_table.proofs.TableIds.{are_bytes}
use Rattle.n2k_table.proofs.table_id.TableId.lemma_valid.Goals as goal

pub returns-in-Bytes-clause-long : goal.returns-in-Bytes-clause-long
returns-in-Bytes-clause-long c = rw (← c.self.view_is, c.in-Bytes.is) (length-sha256 (arc_slice_items c.in-Bytes.field-0))

pub returns-in-Bytes-clause-bytes : goal.returns-in-Bytes-clause-bytes
returns-in-Bytes-clause-bytes c = rw (← c.self.view_is, c.in-Bytes.is) (are_bytes (arc_slice_items c.in-Bytes.field-0))
