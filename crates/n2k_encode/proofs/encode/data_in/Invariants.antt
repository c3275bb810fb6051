use Rattle.std.proofs.Common.{◌≡◌, drop, option_map}
use Rattle.std.specs.List.{enumerate_from}
use Rattle.n2k_encode.specs.Payload.{data_in, definitions_of, first_data, tries}
use Rattle.n2k_encode.specs.Refusal.{cause}
use Rattle.n2k_encode.specs.Views.{request_parts}
use Rattle.n2k_encode.proofs.encode.data_in.Given as goal

-- the definitions that are left, after the first cause so far, give what all give
abbrev pub invariant-loop-place : goal.invariant-loop-place
invariant-loop-place l =
    first_data (option_map cause l.first) (tries (definitions_of l.known) l.kind l.reading (request_parts l.request) (enumerate_from l.place (drop l.place (definitions_of l.known))))
    ≡ data_in (definitions_of l.known) l.kind l.reading (request_parts l.request)
