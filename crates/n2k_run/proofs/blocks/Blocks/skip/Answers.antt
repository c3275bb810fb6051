use Rattle.std.proofs.Common.{ℕ, ◌-◌, List, ap}
use Rattle.n2k_run.specs.Blocks.{BlocksView}
use Rattle.n2k_run.proofs.Ranges.{range_drop}
use Rattle.n2k_run.proofs.blocks.Blocks.skip.Goals as goal

pub returns : goal.returns
returns c =
    let i = c.self.inside in
    let is = ap (λ (held : BlocksView). held.kept) c.self.view_is in
    let held : List ℕ → BlocksView = λ kept. record { kept = kept; is_passing = i.is_passing; has_ended = i.has_ended; reads = i.reads; room = 4096 - i.end } in
    rw (← c.self.view_is) (ap held (range_drop i.block i.start i.end c.args.count (rw is c.requires)))
