use Rattle.std.proofs.Common.{arith}
use Rattle.n2k_table.specs.Inner.Line.{is_plain_character}
use Rattle.n2k_table.proofs.Escapes.{all_more, all_done}
use Rattle.n2k_table.proofs.text.are_plain_characters.Goals as goal

pub loop-number-preserved : goal.loop-number-preserved
loop-number-preserved c =
    rw c.is_plain_character-all.ensures (all_more is_plain_character c.args.numbers.now c.loop-number.number-index c.loop-number.all (omega arith) c.loop-number.invariant)

pub returns : goal.returns
returns c = all_done is_plain_character c.args.numbers.now c.loop-number.number-index c.loop-number.all (omega arith) c.loop-number.invariant
