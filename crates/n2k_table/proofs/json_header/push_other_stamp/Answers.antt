use Rattle.std.proofs.Common.{codes, arith}
use Rattle.n2k_table.specs.Text.{text_json}
use Rattle.n2k_table.proofs.Begins.{adds_none}
use Rattle.n2k_table.proofs.Members.{on_ok}
use Rattle.n2k_table.proofs.Headers.{two_parts}
use Rattle.n2k_table.proofs.json_header.push_other_stamp.Goals as goal

pub returns : goal.returns
returns g c =
    let text = two_parts c.args.line.now.items (codes "{\"timestamp\":") (text_json c.args.stamp.now) _ _ c.in_ok-extend_from_slice.ensures c.in_ok-push_text.ensures in
    record {
      items = adds_none c.reserve.result c.args.line.now.items _ _ _ text c.reserve.ensures.items c.reserve.ensures.unchanged;
      room = on_ok c.reserve.result (λ room. omega (arith, room)) c.reserve.ensures.room;
    }
