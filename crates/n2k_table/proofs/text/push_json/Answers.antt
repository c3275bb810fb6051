use Rattle.std.proofs.Common.{◌≡◌, true, append_assoc, rules, sym, ap, ◌∙◌}
use Rattle.std.specs.List.{list_all}
use Rattle.n2k_table.specs.Inner.Line.{is_plain}
use Rattle.n2k_table.proofs.Escapes.{text_json-plain}
use Rattle.n2k_table.proofs.text.push_json.Goals as goal

pub returns-in_ok-push-2 : goal.returns-in_ok-push-2
returns-in_ok-push-2 c =
    let plain : list_all is_plain c.args.text.now ≡ true = ap (list_all is_plain) (sym c.as_bytes.ensures.value) ∙ sym c.are_plain.ensures ∙ c.if-are_plain.true in
    rw (text_json-plain c.args.text.now plain) (search (rules, append_assoc))
