use Rattle.std.proofs.Common.{ℕ, List, ◌++◌, codes, ap, ◌∙◌}
use Rattle.std.specs.List.{join_with_byte}
use Rattle.n2k_table.specs.Inner.Line.{are_null, before_pgn_json, label_json}
use Rattle.n2k_table.specs.Json.{message_members}
use Rattle.n2k_table.proofs.Begins.{begins_self, begins_more, adds_last}
use Rattle.n2k_table.proofs.Members.{four_parts}
use Rattle.n2k_table.proofs.Headers.{matched_parts}
use Rattle.n2k_table.proofs.line.push_matched.Goals as goal

pub returns : goal.returns
returns g c =
    let m = c.args.packet.now in
    let d = c.args.definition.now in
    let members = message_members (are_null c.args.absent) d m.payload in
    adds_last c.put.result c.args.line.now.items _ _ _ _
    (begins_more _ _ _ _ (begins_more _ _ _ _ (begins_more _ _ _ _ (begins_self _) c.in_ok-push_header.ensures) c.in_ok-extend_from_slice.ensures) c.in_ok-push_fields.ensures)
    (λ closed. four_parts c.args.line.now.items (before_pgn_json m) (label_json m.id.pgn d.description) (join_with_byte 44 members) (codes "}}\n") _ _ _ _
    c.in_ok-push_header.ensures (rw (c.label.ensures, c.requires) at c.in_ok-extend_from_slice.ensures)
    (rw c.«data».ensures.value at c.in_ok-push_fields.ensures) closed
    ∙ ap (λ (t : List ℕ). c.args.line.now.items ++ t) (matched_parts d.description members m)) c.put.ensures
