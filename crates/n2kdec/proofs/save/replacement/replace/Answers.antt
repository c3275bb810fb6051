use Rattle.n2kdec.proofs.save.Making.{folder_synced, given_up, synced, written_over}
use Rattle.n2kdec.proofs.save.replacement.replace.Goals as goal

pub returns-in-Ok : goal.returns-in-Ok
returns-in-Ok g c = synced c.in-Ok.ensures (folder_synced c.as_str.result.now c.folder_of.result.now c.sync_folder.result c.folder_of.ensures c.as_str.ensures c.sync_folder.ensures)

pub returns-in-Err-Refused : goal.returns-in-Err-Refused
returns-in-Err-Refused g c = written_over (rw c.in-Err-Refused.field-0-is at c.in-Err-Refused.ensures) c.write_over.ensures

pub returns-in-Err-Failed : goal.returns-in-Err-Failed
returns-in-Err-Failed g c = given_up (rw c.in-Err-Failed.field-0-is at c.in-Err-Failed.ensures) c.remove_new.ensures
