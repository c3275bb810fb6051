use Rattle.std.proofs.Common.{◌≡◌, Some, subst}
use Rattle.n2k_table.specs.Table.{KnownParts, choice}
use Rattle.n2k_table.proofs.Found.{first_chosen}
use Rattle.n2k_table.proofs.known_pgn.KnownPgn.usual.Goals as goal

pub returns : goal.returns
returns c = λ payload.
    subst (λ (k : KnownParts). choice k.table k.pgn payload ≡ Some c.self.inside.first.now) c.self.view_is
    (first_chosen c.self.inside.table.now c.self.inside.first.now.pgn payload c.self.inside.first.now c.self.invariant.0 (c.asks.ensures c.if-asks.false payload))
