use Rattle.n2k_table.proofs.Documents.{read_sound, read_stands, read_kinds}
use Rattle.n2k_table.proofs.table.Table.read.Goals as goal

pub returns-clause-sound : goal.returns-clause-sound
returns-clause-sound c = read_sound c.parse.result c.args.bytes.now c.parse.ensures.value

pub returns-clause-stands : goal.returns-clause-stands
returns-clause-stands c = read_stands c.parse.result c.args.bytes.now c.parse.ensures.value

pub returns-clause-kinds : goal.returns-clause-kinds
returns-clause-kinds c = read_kinds c.parse.result c.parse.ensures.agree
