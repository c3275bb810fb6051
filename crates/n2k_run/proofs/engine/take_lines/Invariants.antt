use Rattle.std.proofs.Common.{ℕ, ◌≡◌, ◌≤◌, ◌-◌, List, Option, length}
use Rattle.n2k_run.specs.Blocks.{BlocksView}
use Rattle.n2k_run.specs.Runs.{Devices}
use Rattle.n2k_run.specs.Inner.Block.{held_lines}
use Rattle.n2k_run.proofs.HeldLines.{StandsAt}
use Rattle.n2k_run.proofs.engine.take_lines.Given as goal

abbrev pub invariant-loop-size : goal.invariant-loop-size
invariant-loop-size g l =
    let m = g.H.EntryHandler.fold l.engine.handler.now in
    let was = l.initial.pending in
    record {
      within : l.at ≤ length l.held;
      stands : (s₀ : g.H.EntryHandler.Known) (before now : Devices) (left : Option (List ℕ)) (calls failed : ℕ) (blocks : BlocksView) → l.held ≡ held_lines blocks
          → StandsAt m l.engine.packing s₀ before now left calls failed (g.H.EntryHandler.known l.initial.state) 0 blocks was.text.items was.report.items
          → StandsAt m l.engine.packing s₀ before now left calls failed (g.H.EntryHandler.known l.state) l.at blocks l.pending.text.items l.pending.report.items;
      more : m.lines (g.H.EntryHandler.known l.initial.state) ≤ m.lines (g.H.EntryHandler.known l.state);
      ready : g.H.EntryHandler.is_ready l.engine.handler.now l.state;
    }

abbrev pub decreases-loop-size : goal.decreases-loop-size
decreases-loop-size g l = length l.held - l.at
