use Rattle.std.proofs.Common.{rules, ◌≡◌, ◌∙◌, [], Err, option_map, refl, subst, unwrap_or}
use Rattle.n2k_run.specs.Device.{IsWhy}
use Rattle.n2kdec.specs.System.Machine.{IsOfFile, IsRead, IsUnread, LogAfter, bytes_named, explained, outside}
use Rattle.n2kdec.specs.declared.fault.InputFile.TheVariants as reading
use Rattle.n2kdec.proofs.run.MachineLemmas.{admitted, all_calls, log_unread, performed, performed_over, state_unread, table_is, table_unread}
use Rattle.n2kdec.proofs.run.program.run_on_files.Goals as goal

pub returns-in_err-table-clause-runs : goal.returns-in_err-table-clause-runs
returns-in_err-table-clause-runs g c =
    table_unread (g.M.Machine.world c.args.machine.now) c.args.command.now (outside g.M.Output.Sink g.M.Errors.Sink g.K.StateStore (g.M.Machine.calls c.args.machine.now) c.args.outlets.now)
    (g.M.Machine.calls c.read_file.new.machine) c.in_err-table.field-0.0 c.from_residual.result c.from_residual.ensures.1 (admitted g.K.StateStore.admits c.args.command.now c.admit.result c.admit.ensures.answer c.in_default.not-Err) c.in_err-table.ensures.calls

pub returns-in_err-state-clause-runs : goal.returns-in_err-state-clause-runs
returns-in_err-state-clause-runs g c =
    let files = c.args.command.now.files in
    let fault = c.in_err-state.field-0.0 in
    let state = c.in_err-state.ensures.calls in
    state_unread (g.M.Machine.world c.args.machine.now) c.args.command.now (outside g.M.Output.Sink g.M.Errors.Sink g.K.StateStore (g.M.Machine.calls c.args.machine.now) c.args.outlets.now)
    (g.M.Machine.calls c.read_file-2.new.machine) fault c.from_residual-in_err-state.result c.from_residual-in_err-state.ensures.1 (g.M.Machine.calls c.read_file.new.machine) (admitted g.K.StateStore.admits c.args.command.now c.admit.result c.admit.ensures.answer c.in_default.not-Err) c.in_ok-table.ensures.calls
    (state.0, state.1, subst (λ v. IsUnread v files.state reading.State fault state.0) c.in_ok-table.ensures.same state.2)

pub returns-in-Err-open-clause-runs : goal.returns-in-Err-open-clause-runs
returns-in-Err-open-clause-runs g c =
    let files = c.args.command.now.files in
    let state = c.in_ok-state.ensures.calls in
    log_unread (g.M.Machine.world c.args.machine.now) c.args.command.now (outside g.M.Output.Sink g.M.Errors.Sink g.K.StateStore (g.M.Machine.calls c.args.machine.now) c.args.outlets.now)
    (g.M.Machine.calls c.open.new.self) c.unopened.result (Err c.unopened.result) refl (g.M.Machine.calls c.read_file.new.machine) (g.M.Machine.calls c.read_file-2.new.machine) (admitted g.K.StateStore.admits c.args.command.now c.admit.result c.admit.ensures.answer c.in_default.not-Err)
    c.in_ok-table.ensures.calls (state.0, state.1, subst (λ v. IsRead v files.state state.0) c.in_ok-table.ensures.same state.2)
    c.in-Err-open.error c.in-Err-open.ensures.calls c.unopened.ensures

pub returns-clause-runs : goal.returns-clause-runs
returns-clause-runs g c =
    let w = g.M.Machine.world c.args.machine.now in
    let files = c.args.command.now.files in
    let log = c.run_command-answer.new.log in
    let table = c.in_ok-table.ensures in
    let state = c.in_ok-state.ensures in
    let opened = c.in-Ok.ensures in
    let closed = c.close-why.ensures in
    let before = outside g.M.Output.Sink g.M.Errors.Sink g.K.StateStore (g.M.Machine.calls c.args.machine.now) c.args.outlets.now in
    let after = outside g.M.Output.Sink g.M.Errors.Sink g.K.StateStore (g.M.Machine.calls c.close-why.new.self) c.run_command-answer.new.outlets in
    let table_read = option_map (λ bytes. bytes.items) c.in_ok-table.table in
    let state_read = option_map (λ bytes. bytes.items) c.in_ok-state.state in
    let is_table : c.deref.result.now ≡ unwrap_or table_read [] = c.deref.ensures.value ∙ table_is (λ bytes. bytes.items) c.in_ok-table.table c.new.result c.unwrap_or-table.result c.new.ensures.items c.unwrap_or-table.ensures in
    let is_state : option_map (λ bytes. bytes.now) c.map-state.result ≡ state_read = search rules in
    let stands : LogAfter = record { left = g.M.File.Source.remaining log; calls = g.M.File.Source.calls log; failed = g.M.File.Source.failed_calls log } in
    performed w c.args.command.now before after c.explained.result (record {
      admitted = admitted g.K.StateStore.admits c.args.command.now c.admit.result c.admit.ensures.answer c.in_default.not-Err;
      table = table_read;
      is_table = table.bytes;
      of_table = table.calls.0;
      table_read = table.calls.2;
      handed = state_read;
      is_state = subst (λ v. IsOfFile v files.state state_read) table.same state.bytes;
      of_state = state.calls.0;
      state_read = subst (λ v. IsRead v files.state state.calls.0) table.same state.calls.2;
      log = stands;
      why = c.close-why.result;
      is_why = closed.why;
      is_why_unwritten = subst (IsWhy (g.M.Output.Sink.failed_calls c.run_command-answer.new.outlets.output)) c.failure.ensures.told c.failure.ensures.why;
      calls = all_calls files _ _ _ _ _ table.calls.0 state.calls.0 _ _ table.calls.1 state.calls.1 opened.calls closed.calls;
      ended = c.run_command-answer.result;
      over = performed_over c.args.command.now.task (unwrap_or table_read []) state_read before after stands c.run_command-answer.result
          _ _ _ (bytes_named w files.log) _ _ is_table is_state (subst (λ v. g.M.File.Source.remaining c.in-Ok.log ≡ bytes_named v files.log) (state.same ∙ table.same) opened.bytes) opened.none_called opened.none_failed
          c.run_command-answer.ensures.performs;
      told = subst (λ why. c.explained.result ≡ explained c.close-why.result why c.run_command-answer.result) c.failure.ensures.told c.explained.ensures;
    })
