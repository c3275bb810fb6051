use Rattle.std.proofs.Common.{◌≡◌, drop}
use Rattle.json.specs.Value.{members_view}
use Rattle.n2k_encode.specs.Request.{has_known}
use Rattle.n2k_encode.proofs.request.has_known.Given as goal

-- each member so far has a known name
abbrev pub invariant-loop-member : goal.invariant-loop-member
invariant-loop-member l = has_known (members_view (drop l.member-index l.members)) ≡ has_known (members_view l.members)
