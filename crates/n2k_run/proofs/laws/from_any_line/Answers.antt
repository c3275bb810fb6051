use Rattle.std.proofs.Common.{◌≡◌, [], Some, None, Ok, ap, subst, sym}
use Rattle.n2k_table.specs.Table.{kind}
use Rattle.n2k_join.specs.AnyLine.{CanContinue}
use Rattle.n2k_join.specs.State.{State, state}
use Rattle.n2k_run.specs.Parts.{begun}
use Rattle.n2k_run.proofs.AnyLine.{prints_same, texts-same}
use Rattle.n2k_run.proofs.LogSteps.{log_laws}
use Rattle.n2k_run.proofs.laws.from_any_line.Goals as goal

pub returns : goal.returns
returns c = record {
  logs = λ t o before last rest window. prints_same t o c.from_any_line.ensures (log_laws o.window window c.steps_agree.ensures c.lines_stay.ensures) (λ es. c.moved_states.ensures.logs t.id o.window (kind t) es window) before last rest;
  states = λ t o. texts-same t o c.from_any_line.ensures;
  begun = λ t o given s window is. elim given as (λ given. begun t o given ≡ Ok s → CanContinue s × (s.window ≡ o.window)) [
    | None ↦ λ is. let same : state t.id o.window (kind t) [] ≡ s = cc in (subst CanContinue same (c.moved_states.ensures.logs t.id o.window (kind t) [] window), ap (λ (s : State). s.window) (sym same))
    | Some bytes ↦ λ is. (c.moved_states.ensures.any s (c.rules_are_one.ensures.read (kind t) t.id o.window bytes s window is), c.groups_stay_fast.ensures.same_window (kind t) t.id o.window bytes s is)
  ] is;
}
