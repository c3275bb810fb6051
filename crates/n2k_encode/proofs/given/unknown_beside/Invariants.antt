use Rattle.std.proofs.Common.{◌≡◌, drop}
use Rattle.std.specs.Str.{bytes_eq}
use Rattle.json.specs.Value.{value_view, members_view}
use Rattle.n2k_encode.specs.Given.{first_failing, first_unknown}
use Rattle.n2k_encode.proofs.given.unknown_beside.Given as goal

-- the first name among those that are left is the first of all
abbrev pub invariant-loop-member : goal.invariant-loop-member
invariant-loop-member l = first_failing (λ k. bytes_eq k l.name) (members_view (drop l.member-index l.member-items)) ≡ first_unknown (λ k. bytes_eq k l.name) (value_view l.object)
