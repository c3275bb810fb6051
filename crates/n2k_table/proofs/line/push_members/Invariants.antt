-- The members so far, and those of the fields that are left.
use Rattle.std.proofs.Common.{◌≡◌, true, ◌++◌, ◌||◌, false, length}
use Rattle.std.specs.List.{filter_map}
use Rattle.n2k_table.specs.Inner.LineBuffer.{begins}
use Rattle.n2k_table.specs.Json.{member_json}
use Rattle.n2k_table.specs.Shown.{all_shown}
use Rattle.n2k_table.specs.Inner.Line.{are_null, has_members}
use Rattle.n2k_table.proofs.Members.{members_from}
use Rattle.n2k_table.proofs.line.push_members.Given as goal

abbrev pub invariant-loop-field : goal.invariant-loop-field
invariant-loop-field g l = record {
  items : l.line.items ++ members_from l.later (filter_map (member_json (are_null l.absent)) (all_shown l.rest l.«data»))
      ≡ l.fn.line.items ++ members_from false (filter_map (member_json (are_null l.absent)) (all_shown l.fields l.«data»));
  later : (l.later || has_members (filter_map (member_json (are_null l.absent)) (all_shown l.rest l.«data»))) ≡ has_members (filter_map (member_json (are_null l.absent)) (all_shown l.fields l.«data»));
  prefix : begins l.fn.line.items l.line.items ≡ true;
}

abbrev pub decreases-loop-field : goal.decreases-loop-field
decreases-loop-field g l = length l.rest
