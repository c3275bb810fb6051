use Rattle.n2k_run.proofs.PrintedBack.{prints_back}
use Rattle.n2k_run.proofs.laws.replayed.Goals as goal

pub returns : goal.returns
returns c = λ t ms o log window scattered mute. prints_back t ms o log (c.json_is_one_line.ensures t) (c.arrives_whole.ensures.given_back o.window _ ms _ window scattered mute)
