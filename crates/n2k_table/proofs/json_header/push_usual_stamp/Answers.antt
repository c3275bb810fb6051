use Rattle.std.proofs.Common.{◌≡◌, ◌++◌, ◌+◌, ◌≤◌, ◌∙◌, take, codes, length, ap, arith}
use Rattle.std.proofs.lemmas.List.{take_all}
use Rattle.n2k_table.proofs.Headers.{plain_time}
use Rattle.n2k_table.proofs.json_header.push_usual_stamp.Goals as goal
use Rattle.n2k_table.proofs.json_header.push_usual_stamp.Goals.{in-Some, in-None+in_ok-extend_from_slice-in-None+in_ok-reserve-in-None}

pub returns : goal.returns
returns g c =
    let stamp = c.args.stamp.now in
    let begun : (c.match-as_array.line.items ≡ c.write.new.self.items ++ stamp) × (c.match-as_array.line.held + 31 ≤ g.row.SIZE) =
    elim c.match-as_array.branch [
      | in-Some w ↦
          (let same = w.in-Some.ensures.cases.same in
          let whole : take 24 w.in-Some.utc.now ≡ stamp = take_all 24 w.in-Some.utc.now (omega (arith, ap length same, w.in-Some.ensures.cases.long)) ∙ same in
          grind (arith, w.line-is, w.write-in-Some.ensures, whole, c.write.ensures, c.in_ok-reserve.ensures))
      | in-None+in_ok-extend_from_slice-in-None+in_ok-reserve-in-None w ↦ grind (arith, w.line-is, w.in_ok-extend_from_slice-in-None.ensures, w.in_ok-reserve-in-None.ensures)
    ] in
    record {
      items = plain_time c.args.line.now.items stamp _ _ _ c.requires (c.write.ensures.items ∙ ap (λ t. t ++ codes "{\"timestamp\":\"") c.in_ok-reserve.ensures.items) begun.0 c.write-2.ensures.items;
      room = omega (arith, begun.1, c.write-2.ensures.held);
    }
