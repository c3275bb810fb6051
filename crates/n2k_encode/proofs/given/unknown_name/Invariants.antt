use Rattle.std.proofs.Common.{◌≡◌, drop}
use Rattle.json.specs.Value.{value_view, members_view}
use Rattle.n2k_encode.specs.Given.{is_name, first_failing, first_unknown}
use Rattle.n2k_encode.proofs.given.unknown_name.Given as goal

-- the first name among those that are left is the first of all
abbrev pub invariant-loop-member : goal.invariant-loop-member
invariant-loop-member l = first_failing (is_name l.fields l.has_list) (members_view (drop l.member-index l.member-items)) ≡ first_unknown (is_name l.fields l.has_list) (value_view l.object)
