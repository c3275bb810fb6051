use Rattle.std.proofs.Common.{◌-◌, take, ap, ◌∙◌, arith}
use Rattle.n2k_wire.proofs.PlainTexts.{column_of_small, word_is_large}
use Rattle.n2k_wire.proofs.plain_writer.small_column.Goals as goal

pub overflow_sub-digits : goal.overflow_sub-digits
overflow_sub-digits c = rw (c.digits_word.ensures, c.from.ensures) (word_is_large c.args.number c.leading_zeros-zeros.result (omega (arith, c.leading_zeros-zeros.ensures.few)))

pub returns-clause-column : goal.returns-clause-column
returns-clause-column c =
    let free = c.leading_zeros-zeros.ensures in
    ap (take (4 - c.leading_zeros-zeros.result)) c.to_le_bytes.ensures
    ∙ (rw (c.digits_word.ensures, c.from.ensures) (column_of_small c.args.number c.leading_zeros-zeros.result (omega arith) free.two free.one free.none))
