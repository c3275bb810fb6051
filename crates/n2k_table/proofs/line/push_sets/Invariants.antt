-- The sets so far, and those that are left.
use Rattle.std.proofs.Common.{◌≡◌, true, ◌++◌, map, length}
use Rattle.std.specs.List.{join_with_byte}
use Rattle.n2k_table.specs.Inner.LineBuffer.{begins}
use Rattle.n2k_table.specs.Json.{set_json}
use Rattle.n2k_table.specs.Repeat.{sets_in, all_sets}
use Rattle.n2k_table.specs.Shown.{all_shown}
use Rattle.n2k_table.specs.Inner.Line.{are_null}
use Rattle.n2k_table.proofs.Members.{members_from}
use Rattle.n2k_table.proofs.line.push_sets.Given as goal

abbrev pub invariant-loop-set : goal.invariant-loop-set
invariant-loop-set g l = record {
  items : l.line.items ++ members_from l.later (map (set_json (are_null l.absent)) (map (all_shown l.repeat.fields) (sets_in l.repeat l.rest)))
      ≡ l.fn.line.items ++ join_with_byte 44 (map (set_json (are_null l.absent)) (all_sets l.repeat l.«data»));
  prefix : begins l.fn.line.items l.line.items ≡ true;
}

abbrev pub decreases-loop-set : goal.decreases-loop-set
decreases-loop-set g l = length (sets_in l.repeat l.rest)
