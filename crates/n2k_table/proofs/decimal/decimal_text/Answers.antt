use Rattle.n2k_table.proofs.Decimals.{dec_is_decimal, dec_only, size_lt}
use Rattle.n2k_table.proofs.decimal.decimal_text.Goals as goal

pub returns-clause-decimal : goal.returns-clause-decimal
returns-clause-decimal c = dec_is_decimal c.args.value c.args.decimals (size_lt c.args.value c.ranges.value)

pub returns-clause-only : goal.returns-clause-only
returns-clause-only c = dec_only c.args.value c.args.decimals (size_lt c.args.value c.ranges.value)

pub returns-in_err-push_decimal-clause-decimal : goal.returns-in_err-push_decimal-clause-decimal
returns-in_err-push_decimal-clause-decimal c = dec_is_decimal c.args.value c.args.decimals (size_lt c.args.value c.ranges.value)

pub returns-in_err-push_decimal-clause-only : goal.returns-in_err-push_decimal-clause-only
returns-in_err-push_decimal-clause-only c = dec_only c.args.value c.args.decimals (size_lt c.args.value c.ranges.value)
