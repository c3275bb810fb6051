use Rattle.std.proofs.Common.{◌≡◌, arith, rules}
use Rattle.hex.specs.Hex.{encode_upper}
use Rattle.n2k_wire.proofs.CandumpLemmas.{digits_put, upper_of_lower}
use Rattle.n2k_wire.proofs.candump_writer.put_upper.Goals as goal

pub returns-clause-bytes : goal.returns-clause-bytes
returns-clause-bytes c =
    let same : c.make_ascii_uppercase.new.self ≡ encode_upper c.args.bytes.now = search (rules, upper_of_lower) in
    digits_put c.args.text.now _ c.args.bytes.now c.args.at _ _ same (omega arith) (omega arith)
