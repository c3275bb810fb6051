use Rattle.std.proofs.Common.{List, ℕ, [], ◌∷◌, ◌++◌, if◌then◌else◌, ap, ◌∙◌, append_assoc}
use Rattle.n2k_table.specs.Json.{comma}
use Rattle.n2k_table.proofs.Begins.{adds_last, begins_self, begins_more}
use Rattle.n2k_table.proofs.line.push_set.Goals as goal

pub returns : goal.returns
returns g c =
    let line = c.args.line.now.items in
    let begun = c.write_comma.ensures.items ∙ ap (λ (t : List ℕ). t ++ (if c.args.later then comma ∷ [] else [])) c.in_ok-reserve.ensures.items in
    let opened = c.write.ensures.items in
    let inner = c.in_ok-push_members.ensures.items.0 in
    adds_last c.push.result line _ _ _ _ (begins_more _ _ _ _ (begins_more _ _ _ _ (begins_more line line _ _ (begins_self line) begun) opened) inner)
    (λ closed. rw (closed, inner, opened, begun) (simp append_assoc)) c.push.ensures
