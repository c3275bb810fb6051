-- The bits so far, and those that are left.
use Rattle.std.proofs.Common.{◌≡◌, true, ◌++◌, map, length}
use Rattle.std.specs.List.{join_with_byte}
use Rattle.n2k_table.specs.Inner.LineBuffer.{begins}
use Rattle.n2k_table.specs.Json.{flag_json}
use Rattle.n2k_table.specs.Shown.{flags_left}
use Rattle.n2k_table.proofs.Members.{members_from}
use Rattle.n2k_table.proofs.line.push_bits.Given as goal

abbrev pub invariant-loop-bit : goal.invariant-loop-bit
invariant-loop-bit g l = record {
  items : l.line.items ++ members_from l.later (map flag_json (flags_left l.rest))
      ≡ l.fn.line.items ++ join_with_byte 44 (map flag_json (flags_left l.flags));
  prefix : begins l.fn.line.items l.line.items ≡ true;
}

abbrev pub decreases-loop-bit : goal.decreases-loop-bit
decreases-loop-bit g l = length (flags_left l.rest)
