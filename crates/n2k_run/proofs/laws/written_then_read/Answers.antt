use Rattle.n2k_run.proofs.WrittenTexts.{written_back}
use Rattle.n2k_run.proofs.laws.written_then_read.Goals as goal

pub returns : goal.returns
returns c = λ t ms o window frames are fast. written_back (record { one_line = c.plain_line_is_one_line.ensures; reads_back = c.plain_line_reads_back.ensures }) t ms o frames (c.written_is_scattered.ensures o.window _ ms window are fast) (λ es scattered mute. c.arrives_whole.ensures.given_back o.window _ ms es window scattered mute) (c.json_is_one_line.ensures t)
