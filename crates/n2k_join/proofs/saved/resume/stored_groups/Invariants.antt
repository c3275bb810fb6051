-- The groups so far, and the remaining groups: all hold if the remaining ones do, with new keys. The first lines of the
-- remaining groups follow the ones so far.
use Rattle.std.proofs.Common.{◌≡◌, ◌≤◌, ◌+◌, ℕ, true, take, drop}
use Rattle.std.specs.List.{AllByRecursion}
use Rattle.n2k_table.specs.Table.{kind}
use Rattle.n2k_join.specs.Resumed.{groups_hold, firsts_rise}
use Rattle.n2k_join.specs.State.{HasParts}
use Rattle.n2k_join.specs.Inner.Apart.{each_new}
use Rattle.n2k_join.specs.Inner.Order.{listed, IsKept}
use Rattle.n2k_join.proofs.Apart.{keys_in}
use Rattle.n2k_join.proofs.saved.resume.stored_groups.Given as goal

abbrev pub invariant-loop-group : goal.invariant-loop-group
invariant-loop-group l = record {
  left : each_new (kind l.table) (keys_in (listed l.stored)) (drop l.group-index l.groups) ≡ groups_hold (kind l.table) l.groups;
  kept : listed l.stored ≡ take l.group-index l.groups;
  parts : AllByRecursion HasParts (listed l.stored);
  rises : (least : ℕ) × (IsKept least l.stored × ((least ≤ l.lines + 1) × (firsts_rise least l.lines (drop l.group-index l.groups) ≡ true)));
}
