use Rattle.std.proofs.Common.{◌≡◌, true}
use Rattle.n2k_table.specs.Table.{TableParts, kind}
use Rattle.n2k_run.specs.declared.options.Options.{Options}
use Rattle.n2k_run.specs.Parts.{entries_of_parts}
use Rattle.n2k_run.proofs.PrintedInOrder.{OrderLaws, each_tells_one, log_in_order}
use Rattle.n2k_run.proofs.laws.printed_in_order.Goals as goal

pub returns : goal.returns
returns c =
    let laws : (t : TableParts) (o : Options) → o.window.in_order ≡ true → OrderLaws t o = λ t o order. record {
      one_line = c.json_is_one_line.ensures t;
      consecutive = λ es line m given. c.consecutive_frames.ensures.messages o.window (kind t) es line m order given;
    } in
    record {
      log = λ t o log order. log_in_order t o log (laws t o order);
      parts = λ t o parts order. each_tells_one t o (laws t o order) (entries_of_parts o parts);
    }
