use Rattle.std.proofs.lemmas.Grind.{common_steps}
use Rattle.std.proofs.lemmas.Result.{err_from_is_err_and}
use Rattle.std.proofs.Common.{arith, ℕ, List, ◌++◌, take, sym, ap, ◌∙◌, append_assoc}
use Rattle.n2k_table.specs.Text.{hex_pair, hex_pairs}
use Rattle.n2k_table.proofs.Begins.{begins_self, begins_more, begins_through}
use Rattle.n2k_table.proofs.Escapes.{later_pairs, hex_pairs-first}
use Rattle.n2k_table.proofs.text.push_inner_pairs.Goals as goal

pub loop-byte-init : goal.loop-byte-init
loop-byte-init g c =
    let line = c.args.line.now.items in
    let rest = later_pairs c.in-Some.rest.now in
    let first = c.in_ok-put.ensures ∙ ap (λ (t : List ℕ). line ++ take 2 t) c.pair.ensures in
    record {
      items = ap (λ (l : List ℕ). l ++ rest) first ∙ append_assoc line (hex_pair c.in-Some.first.now) rest
          ∙ ap (λ (t : List ℕ). line ++ t) (sym (hex_pairs-first c.in-Some.first.now c.in-Some.rest.now) ∙ ap hex_pairs (sym c.in-Some.ensures.cases.0));
      prefix = begins_more _ _ _ _ (begins_self _) c.in_ok-put.ensures;
    }

pub returns-in_err-put-2 : goal.returns-in_err-put-2
returns-in_err-put-2 g c =
    let p = err_from_is_err_and c.from_residual-in_err-put-2.result c.from_residual-in_err-put-2.ensures.1 in
    rw p.1 (begins_through _ _ _ c.loop-byte.invariant.prefix c.in_err-put-2.ensures)

pub loop-byte-preserved : goal.loop-byte-preserved
loop-byte-preserved g c = record {
  items = grind (arith, common_steps);
  prefix = begins_more _ _ _ _ c.loop-byte.invariant.prefix c.in_ok-put-2.ensures;
}
