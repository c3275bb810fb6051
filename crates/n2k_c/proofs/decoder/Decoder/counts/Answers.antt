use Rattle.n2k_c.specs.Stands.{taken_of}
use Rattle.n2k_c.proofs.decoder.Decoder.counts.Goals as goal

pub returns : goal.returns
returns c = λ t job fed is_whole printed reported s. c.counts.ensures t job (taken_of is_whole fed) s.taken.leads_to
