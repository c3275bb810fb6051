use Rattle.std.proofs.lemmas.Grind.{common_steps}
use Rattle.std.proofs.lemmas.Result.{err_from_is_err_and}
use Rattle.std.proofs.Common.{List, ℕ, ◌++◌, map, ap, ◌∙◌, arith, append_assoc, rules}
use Rattle.std.specs.List.{join_with_byte}
use Rattle.n2k_table.specs.Json.{set_json}
use Rattle.n2k_table.specs.Repeat.{sets_in}
use Rattle.n2k_table.specs.Shown.{all_shown}
use Rattle.n2k_table.specs.Inner.Line.{are_null}
use Rattle.n2k_table.proofs.Begins.{begins_self, begins_through, begins_more}
use Rattle.n2k_table.proofs.Members.{members_from-joined}
use Rattle.n2k_table.proofs.SetSizes.{set_first_bits}
use Rattle.n2k_table.proofs.line.push_sets.Goals as goal

pub loop-set-init : goal.loop-set-init
loop-set-init g c =
    let r = c.args.repeat.now in
    let line = c.args.line.now.items in
    let objects = map (set_json (are_null c.args.absent)) in
    record {
      items = ap (λ (t : List ℕ). line ++ t) (members_from-joined (objects (map (all_shown r.fields) (sets_in r c.from_first-rest.result.now))))
          ∙ ap (λ (first : List ℕ). line ++ join_with_byte 44 (objects (map (all_shown r.fields) (sets_in r first)))) c.from_first-rest.ensures;
      prefix = begins_self _;
    }

pub push_set-requires : goal.push_set-requires
push_set-requires g c =
    let set = c.in-Some.set.now in
    let more = sets_in c.args.repeat.now c.in-Some.after.now in
    (search rules, set_first_bits c.args.repeat.now c.loop-set.rest.now set more c.first_word-word.result c.in-Some.ensures c.first_word-word.ensures)

pub returns-in_err-push_set : goal.returns-in_err-push_set
returns-in_err-push_set g c =
    let p = err_from_is_err_and c.from_residual.result c.from_residual.ensures.1 in
    rw p.1 (begins_through _ _ _ c.loop-set.invariant.prefix c.in_err-push_set.ensures)

pub loop-set-preserved : goal.loop-set-preserved
loop-set-preserved g c = record {
  items = grind (arith, common_steps, append_assoc);
  prefix = begins_more _ _ _ _ c.loop-set.invariant.prefix c.in_ok-push_set.ensures;
}
