use Rattle.std.proofs.Common.{rules}
use Rattle.n2k_join.specs.Inner.Order.{listed}
use Rattle.n2k_join.proofs.SavedPieces.{state_written}
use Rattle.n2k_join.proofs.saved.text.push_state.Goals as goal

pub returns : goal.returns
returns c = record {
  tokens = state_written c.args.out.now.tokens c.begin_object.new.self.tokens c.push_prefix.new.out.tokens c.push_open.new.out.tokens c.push_back.new.out.tokens c.end_object.new.self.tokens
      (record { id = c.args.id.now; window = c.args.window; counts = c.args.counts.now; groups = listed c.args.groups.now }) c.are_waiting-with_window.result c.are_waiting-with_window.ensures
      c.in_ok-begin_object.ensures.ok c.in_ok-push_prefix.ensures.tokens c.in_ok-push_open.ensures.tokens c.in_ok-push_back.ensures.tokens c.in_ok-end_object.ensures.ok;
  before = search rules;
}
