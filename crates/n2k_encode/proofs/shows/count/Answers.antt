use Rattle.std.proofs.Common.{sym}
use Rattle.n2k_encode.proofs.Near.{count-items_view}
use Rattle.n2k_encode.proofs.shows.count.Goals as goal

pub returns : goal.returns
returns c = sym (count-items_view c.args.values.now)
