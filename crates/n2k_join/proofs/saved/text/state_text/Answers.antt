use Rattle.std.proofs.Common.{◌∙◌}
use Rattle.n2k_join.specs.Inner.Order.{listed}
use Rattle.n2k_join.proofs.SavedPieces.{text_written}
use Rattle.n2k_join.proofs.saved.text.state_text.Goals as goal

pub returns-clause-text : goal.returns-clause-text
returns-clause-text c =
    text_written (record { id = c.args.id.now; window = c.args.window; counts = c.args.counts.now; groups = listed c.args.groups.now }) c.push_state.new.out.before c.into_inner.result.items c.new-out.result.tokens c.push_state.new.out.tokens
    c.into_inner.ensures.items (c.in_ok-push_state.ensures.before ∙ c.new-out.ensures.before ∙ c.new.ensures.items) c.new-out.ensures.tokens c.in_ok-push_state.ensures.tokens
