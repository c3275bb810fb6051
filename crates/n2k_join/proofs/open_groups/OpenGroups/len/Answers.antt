use Rattle.std.proofs.Common.{◌∙◌, sym}
use Rattle.n2k_join.proofs.Order.{length-listed}
use Rattle.n2k_join.proofs.open_groups.OpenGroups.len.Goals as goal

pub returns : goal.returns
returns c = λ next kept. c.len.ensures.len ∙ sym (length-listed next c.args.self.now kept)
