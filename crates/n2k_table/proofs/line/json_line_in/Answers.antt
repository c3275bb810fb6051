use Rattle.std.proofs.Common.{rules}
use Rattle.n2k_table.proofs.Headers.{choice_number}
use Rattle.n2k_table.proofs.line.json_line_in.Goals as goal

pub push_line-requires : goal.push_line-requires
push_line-requires g c =
    let m = c.args.packet.now in
    (search rules, rw (c.choose-definition.ensures, c.«data».ensures.value, c.id.ensures.value) (choice_number c.args.table.now m.id.pgn m.payload))
