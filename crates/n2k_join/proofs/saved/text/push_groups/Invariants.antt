-- The groups so far are written.
use Rattle.std.proofs.Common.{◌≡◌, ◌++◌, ◌-◌, length}
use Rattle.n2k_join.specs.Inner.SavedTokens.{groups_tokens}
use Rattle.n2k_join.specs.Inner.Order.{item_at, places_from, groups_at, listed}
use Rattle.n2k_join.proofs.saved.text.push_groups.Given as goal

abbrev pub invariant-loop-written : goal.invariant-loop-written
invariant-loop-written l = record {
  tokens : l.initial.out.tokens ++ groups_tokens (listed l.groups) ≡ l.out.tokens ++ groups_tokens (groups_at (item_at l.groups) (places_from l.groups.groups.entries (length l.groups.groups.entries - l._written) l.at));
  before : l.out.before ≡ l.initial.out.before;
  end : l._written-end ≡ length l.groups.groups.entries;
}
