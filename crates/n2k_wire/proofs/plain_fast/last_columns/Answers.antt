use Rattle.std.proofs.Common.{ap, length, arith, ◌∙◌}
use Rattle.std.proofs.lemmas.Slice.{take-put_mid}
use Rattle.n2k_wire.proofs.PlainFast.{read_last}
use Rattle.n2k_wire.proofs.plain_fast.last_columns.Goals as goal

pub returns : goal.returns
returns c =
    let text = c.args.text.now in
    read_last text _ c.in_ok-bytes.bytes c.args.count c.in_ok-bytes.ensures (take-put_mid 0 (length text) _ c.copy_from_slice.new.self (length text) (omega (arith, ap length c.copy_from_slice.ensures.after)) (omega arith) ∙ c.copy_from_slice.ensures.after)
    (omega arith) c.requires.0 c.requires.1
