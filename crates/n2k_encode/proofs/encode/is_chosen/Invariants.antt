use Rattle.std.proofs.Common.{◌≡◌, not, take}
use Rattle.std.specs.List.{list_all}
use Rattle.n2k_table.specs.Table.{matches}
use Rattle.n2k_encode.specs.Payload.{definitions_of}
use Rattle.n2k_encode.proofs.encode.is_chosen.Given as goal

-- the data match none of the definitions so far
abbrev pub invariant-loop-earlier : goal.invariant-loop-earlier
invariant-loop-earlier l = l.is_first ≡ list_all (λ d. not (matches l.«data» d)) (take l.earlier (definitions_of l.known))
