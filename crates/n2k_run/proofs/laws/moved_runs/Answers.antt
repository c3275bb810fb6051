use Rattle.std.proofs.Common.{sym, ◌∙◌}
use Rattle.n2k_table.specs.Table.{kind}
use Rattle.n2k_join.specs.State.{state}
use Rattle.n2k_run.proofs.AnyLine.{goes, outputs}
use Rattle.n2k_run.proofs.LogSteps.{log_laws, output_after-is}
use Rattle.n2k_run.proofs.laws.moved_runs.Goals as goal

pub returns : goal.returns
returns c = record {
  output = λ d t o. outputs t o d (c.moved_states.ensures.moved d);
  log = λ d t o s prefix window is to. sym (output_after-is t o (log_laws o.window window c.steps_agree.ensures c.lines_stay.ensures) t.id prefix) ∙ outputs t o d (c.moved_states.ensures.moved d) s (state t.id o.window (kind t) prefix) is (c.moved_states.ensures.logs t.id o.window (kind t) prefix window) to;
  leads = λ d t o s r es is also to. (goes t o d (c.moved_states.ensures.moved d) s r es is also to).leads;
}
