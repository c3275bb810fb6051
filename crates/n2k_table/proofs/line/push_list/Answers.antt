use Rattle.std.proofs.Common.{map}
use Rattle.std.specs.List.{join_with_byte}
use Rattle.n2k_table.specs.Repeat.{all_sets}
use Rattle.n2k_table.specs.Json.{set_json}
use Rattle.n2k_table.proofs.Begins.{begins_self, begins_more, adds_last}
use Rattle.n2k_table.proofs.Members.{last_parts}
use Rattle.n2k_table.specs.Inner.Line.{are_null}
use Rattle.n2k_table.proofs.line.push_list.Goals as goal

pub returns : goal.returns
returns g c =
    let sets = join_with_byte 44 (map (set_json (are_null c.args.absent)) (all_sets c.args.repeat.now c.args.«data».now)) in
    adds_last c.push.result c.args.line.now.items _ _ _ _
    (begins_more _ _ _ _ (begins_more _ _ _ _ (begins_self _) c.in_ok-extend_from_slice.ensures) c.in_ok-push_sets.ensures) (λ closed. last_parts c.args.line.now.items sets _ _ _ c.args.later (rw c.list_key.ensures at c.in_ok-extend_from_slice.ensures) c.in_ok-push_sets.ensures closed) c.push.ensures
