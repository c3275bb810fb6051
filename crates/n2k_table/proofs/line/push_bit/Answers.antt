use Rattle.std.proofs.Common.{List, ℕ, [], ◌∷◌, ◌++◌, if◌then◌else◌, ap, ◌∙◌}
use Rattle.n2k_table.specs.Json.{comma}
use Rattle.n2k_table.proofs.Begins.{adds_two}
use Rattle.n2k_table.proofs.line.push_bit.Goals as goal

pub returns-in-Name : goal.returns-in-Name
returns-in-Name g c =
    rw c.in-Name.is (adds_two c.push_json.result c.args.line.now.items _ _ _ _ (c.write_comma.ensures.items ∙ ap (λ (t : List ℕ). t ++ (if c.args.later then comma ∷ [] else [])) c.in_ok-reserve.ensures.items) c.push_json.ensures)

pub returns-in-Bit : goal.returns-in-Bit
returns-in-Bit g c =
    rw c.in-Bit.is (adds_two c.extend_from_slice.result c.args.line.now.items _ _ _ _ (c.write_comma.ensures.items ∙ ap (λ (t : List ℕ). t ++ (if c.args.later then comma ∷ [] else [])) c.in_ok-reserve.ensures.items)
    (rw (c.as_bytes.ensures.value ∙ c.format.ensures.text) at c.extend_from_slice.ensures))
