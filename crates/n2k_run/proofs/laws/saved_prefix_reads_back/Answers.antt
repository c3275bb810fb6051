use Rattle.n2k_run.proofs.SavedPrefixes.{prefix_back}
use Rattle.n2k_run.proofs.laws.saved_prefix_reads_back.Goals as goal

pub returns : goal.returns
returns c = prefix_back (record { are_entries = c.entries_are_entries.ensures.valid; log_back = c.saved_log_reads_back.ensures })
