use Rattle.std.proofs.Common.{refl, []}
use Rattle.n2k_join.specs.Inner.Places.{nowhere}
use Rattle.n2k_join.proofs.Order.{empty-kept}
use Rattle.n2k_join.proofs.open_groups.OpenGroups.new.Goals as goal

pub returns : goal.returns
returns c =
    record {
      listed = (empty-kept (record { groups = c.new.result; first = nowhere; last = nowhere; noted = [] }) c.new.ensures.empty refl refl).0;
      kept = (empty-kept _ c.new.ensures.empty refl refl).1;
    }
