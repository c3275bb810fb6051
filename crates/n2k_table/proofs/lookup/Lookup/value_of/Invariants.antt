-- The first entry of that name is among those that are left.
use Rattle.std.proofs.Common.{◌≡◌, find, drop}
use Rattle.n2k_table.proofs.Names.{has_name}
use Rattle.n2k_table.proofs.lookup.Lookup.value_of.Given as goal

abbrev pub invariant-loop-place : goal.invariant-loop-place
invariant-loop-place l = find (has_name l.most l.name) (drop l.place l.self.entries) ≡ find (has_name l.most l.name) l.self.entries
