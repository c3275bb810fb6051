use Rattle.std.proofs.Common.{take, ap, ◌∙◌, arith}
use Rattle.n2k_wire.proofs.PlainTexts.{column_of_five, column_of_six}
use Rattle.n2k_wire.proofs.plain_writer.pgn_column.Goals as goal

pub returns-then-pgn-lt100000-clause-column : goal.returns-then-pgn-lt100000-clause-column
returns-then-pgn-lt100000-clause-column c =
    ap (take 6) c.to_le_bytes.ensures ∙ (rw (c.from-high.ensures, c.from-low.ensures, c.digits_word.ensures, c.digits_word-2.ensures) (column_of_five c.args.pgn (omega arith) (omega arith)))

pub returns-else-pgn-lt100000-clause-column : goal.returns-else-pgn-lt100000-clause-column
returns-else-pgn-lt100000-clause-column c =
    ap (take 7) c.to_le_bytes-else-pgn-lt100000.ensures ∙ (rw (c.from-high.ensures, c.from-low.ensures, c.digits_word.ensures, c.digits_word-2.ensures) (column_of_six c.args.pgn (omega arith) (omega arith)))
