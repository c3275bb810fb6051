-- The remaining groups rise if all rise.
use Rattle.std.proofs.Common.{◌≡◌, ◌≤◌, ◌+◌, drop}
use Rattle.n2k_join.specs.Resumed.{firsts_rise}
use Rattle.n2k_join.proofs.saved.rules.firsts_rise.Given as goal

abbrev pub invariant-loop-group : goal.invariant-loop-group
invariant-loop-group l = (firsts_rise l.least l.lines (drop l.group-index l.groups) ≡ firsts_rise 1 l.lines l.groups) × (l.least ≤ l.lines + 1)
