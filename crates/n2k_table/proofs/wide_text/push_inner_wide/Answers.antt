use Rattle.std.proofs.lemmas.Grind.{common_steps}
use Rattle.std.proofs.lemmas.Result.{err_from_is_err_and}
use Rattle.std.proofs.Common.{◌++◌, List, ℕ, ap, sym, ◌∙◌, append-nil, arith, append_assoc}
use Rattle.std.specs.List.{flat_map}
use Rattle.json.specs.Print.{escape_byte}
use Rattle.n2k_table.proofs.Begins.{begins_through, begins_more}
use Rattle.n2k_table.proofs.Strings.{no_units}
use Rattle.n2k_table.proofs.wide_text.push_inner_wide.Goals as goal

pub returns : goal.returns
returns g c =
    let line = c.loop-letter.line.items in
    sym (append-nil line) ∙ ap (λ (t : List ℕ). line ++ flat_map escape_byte t) (sym (no_units c.loop-letter.rest.now c.in_default.ensures)) ∙ c.loop-letter.invariant.items

pub returns-in_err-push_char : goal.returns-in_err-push_char
returns-in_err-push_char g c =
    let p = err_from_is_err_and c.from_residual.result c.from_residual.ensures.1 in
    rw p.1 (begins_through _ _ _ c.loop-letter.invariant.prefix c.in_err-push_char.ensures)

pub loop-letter-preserved : goal.loop-letter-preserved
loop-letter-preserved g c = record {
  items = grind (arith, common_steps, append_assoc);
  prefix = begins_more _ _ _ _ c.loop-letter.invariant.prefix c.in_ok-push_char.ensures;
}
