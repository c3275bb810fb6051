use Rattle.std.proofs.Common.{map, take}
use Rattle.n2k_run.specs.Parts.{TakesAll}
use Rattle.n2k_run.specs.Runs.{sinks_seen}
use Rattle.n2k_run.proofs.part.run_parts.Given as goal

-- the parts so far were taken whole
abbrev pub invariant-loop-part : goal.invariant-loop-part
invariant-loop-part g l =
    let before = sinks_seen g.W.Sink g.E.Sink l.fn.writer l.fn.reporter in
    let now = sinks_seen g.W.Sink g.E.Sink l.writer l.reporter in
    TakesAll l.table l.options (map (λ part. part.now) (take l.part-index l.parts)) before now l.last
