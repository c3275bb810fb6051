use Rattle.std.proofs.Common.{ap, take, ◌∙◌}
use Rattle.n2k_wire.proofs.CandumpLemmas.{upper_of_eight}
use Rattle.n2k_wire.proofs.PlainTexts.{lower_are, upper_are}
use Rattle.n2k_wire.proofs.plain_writer.eight_digits.Goals as goal

pub returns-clause-lower : goal.returns-clause-lower
returns-clause-lower c = λ lower. rw lower at c.digits_from.ensures ∙ lower_are c.args.data.now c.told-data c.fits-data

pub returns-clause-upper : goal.returns-clause-upper
returns-clause-upper c = λ upper. ap (take 16) (rw upper at c.digits_from.ensures ∙ upper_are c.args.data.now c.told-data c.fits-data) ∙ upper_of_eight c.args.data.now c.told-data
