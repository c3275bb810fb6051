-- The keys left pass if all pass.
use Rattle.std.proofs.Common.{◌≡◌, string_bytes}
use Rattle.std.specs.List.{list_all}
use Rattle.toml.specs.View.{table_view}
use Rattle.n2k_table.specs.Tree.{is_key, has_only_keys}
use Rattle.n2k_table.proofs.tree.has_only_keys.Given as goal

abbrev pub invariant-loop-key : goal.invariant-loop-key
invariant-loop-key l =
    (goal.iterator-loop-key).can_next l.key-iterator ×
    (goal.iterator-loop-key).is_finite l.key-iterator ×
    (list_all (λ k. is_key l.section (string_bytes k)) l.key-iterator ≡ has_only_keys l.section (table_view l.table))
