use Rattle.std.proofs.Common.{ℕ, List, ◌++◌, codes, refl, sym, ap, append_assoc, ◌∙◌, decimal}
use Rattle.n2k_table.specs.Inner.Line.{before_pgn_json}
use Rattle.n2k_table.specs.Text.{text_json, hex_pairs}
use Rattle.n2k_table.proofs.Begins.{begins_self, begins_more, adds_last}
use Rattle.n2k_table.proofs.Members.{six_parts}
use Rattle.n2k_table.proofs.Headers.{unmatched_parts}
use Rattle.n2k_table.proofs.line.push_unmatched.Goals as goal

pub returns : goal.returns
returns g c =
    let m = c.args.packet.now in
    adds_last c.put.result c.args.line.now.items _ _ _ _
    (begins_more _ _ _ _ (begins_more _ _ _ _ (begins_more _ _ _ _ (begins_more _ _ _ _ (begins_self _) c.in_ok-push_header.ensures) c.in_ok-push_pgn.ensures) c.in_ok-extend_from_slice.ensures) c.in_ok-push_pairs.ensures)
    (λ closed. six_parts c.args.line.now.items (before_pgn_json m) (codes ",\"pgn\":") (decimal m.id.pgn) (codes ",\"description\":\"Unmatched\",\"fields\":{\"Data\":") (text_json (hex_pairs m.payload)) (codes "}}\n") _ _ _ _ _ _
    c.in_ok-push_header.ensures refl ((rw c.id.ensures.value at c.in_ok-push_pgn.ensures) ∙ sym (append_assoc _ (codes ",\"pgn\":") (decimal m.id.pgn))) c.in_ok-extend_from_slice.ensures
    (rw c.«data».ensures.value at c.in_ok-push_pairs.ensures) closed
    ∙ ap (λ (t : List ℕ). c.args.line.now.items ++ t) (unmatched_parts m)) c.put.ensures
