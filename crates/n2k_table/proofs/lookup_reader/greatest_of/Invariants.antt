-- No greater value has a name but among the entries that are left.
use Rattle.std.proofs.Common.{◌≡◌, ◌<◌, ℕ, drop, nat_eq, None}
use Rattle.std.specs.Map.{lookup as value_at}
use Rattle.n2k_table.proofs.lookup_reader.greatest_of.Given as goal

abbrev pub invariant-loop-at : goal.invariant-loop-at
invariant-loop-at l =
    (value : ℕ) → l.greatest < value → value_at (nat_eq value) (drop l.at l.names.entries) ≡ None → value_at (nat_eq value) l.names.entries ≡ None
