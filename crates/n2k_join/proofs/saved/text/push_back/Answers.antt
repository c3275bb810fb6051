use Rattle.std.proofs.Common.{rules}
use Rattle.n2k_join.proofs.SavedPieces.{back_written}
use Rattle.n2k_join.proofs.saved.text.push_back.Goals as goal

pub returns : goal.returns
returns c = record {
  tokens = back_written c.args.out.now.tokens c.push_count.new.out.tokens c.push_count-2.new.out.tokens c.push_table.new.out.tokens c.push_count-3.new.out.tokens c.push_window.new.out.tokens c.args.with_window c.args.id.now c.args.window.lines c.args.counts.now
      c.in_ok-push_count.ensures.tokens c.in_ok-push_count-2.ensures.tokens c.in_ok-push_table.ensures.tokens c.in_ok-push_count-3.ensures.tokens (rw c.get.ensures.value at c.in_ok-push_window.ensures.tokens);
  before = search rules;
}
