use Rattle.std.proofs.Common.{◌≡◌, ◌≤◌, ℕ, List, length, take}
use Rattle.n2k_run.specs.Blocks.{HasNoFeed}
use Rattle.n2k_encode_run.specs.Inner.Taking.{AreCounts, TakesBytes, most_kept}
use Rattle.n2k_encode_run.proofs.encoder.Encoder.feed.Given as goal

abbrev pub invariant-loop-end : goal.invariant-loop-end
invariant-loop-end l = record {
  fed : (part : List ℕ) → HasNoFeed part → l.fn.room.kept.items ≡ take most_kept part → TakesBytes l.self.table.now l.self.nearest part l.bytes l.left l.room.kept.items l.fn.ledger l.ledger;
  counts : AreCounts l.ledger.counts;
  few : length l.room.kept.items ≤ most_kept;
}

abbrev pub decreases-loop-end : goal.decreases-loop-end
decreases-loop-end l = length l.left
