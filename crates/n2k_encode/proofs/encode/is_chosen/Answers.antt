use Rattle.std.proofs.Common.{sym}
use Rattle.n2k_table.specs.Table.{matches}
use Rattle.n2k_encode.specs.Payload.{definitions_of}
use Rattle.n2k_encode.proofs.Firsts.{none_more}
use Rattle.n2k_encode.proofs.encode.is_chosen.Goals as goal

pub loop-earlier-preserved : goal.loop-earlier-preserved
loop-earlier-preserved c =
    rw (c.loop-earlier.invariant, c.matches_at.ensures) (sym (none_more (matches c.args.«data».now) (definitions_of c.args.known.now) c.loop-earlier.earlier))
