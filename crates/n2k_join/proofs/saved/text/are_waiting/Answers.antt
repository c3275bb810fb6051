use Rattle.std.proofs.Common.{◌+◌, ◌∙◌, nat_lt, sym, ap}
use Rattle.std.specs.List.{list_all}
use Rattle.n2k_join.specs.Open.{is_waiting}
use Rattle.n2k_join.specs.declared.piece.FrameKey.{FrameKey}
use Rattle.n2k_join.specs.declared.open_groups.Linked.{Linked}
use Rattle.n2k_join.specs.Inner.Slots.{group_at}
use Rattle.n2k_join.specs.Inner.Order.{item, listed}
use Rattle.n2k_join.proofs.Listed.{first-group, none-listed, first-waits}
use Rattle.n2k_join.proofs.saved.text.are_waiting.Goals as goal

pub returns-in-Some : goal.returns-in-Some
returns-in-Some c =
    let g = c.args.groups.now in
    let e : FrameKey × Linked = (c.in-Some.field-0-0.now, c.in-Some.linked.now) in
    c.is_waiting.ensures ∙ ap (λ n. nat_lt c.args.lines (e.1.group.first + n)) (c.from.ensures ∙ c.get.ensures.value)
    ∙ first-waits c.args.window c.args.lines c.requires.0 (listed g) _ (group_at (item e)) c.requires.1.rise (first-group g e (sym c.in-Some.ensures.entry))

pub returns-in-None : goal.returns-in-None
returns-in-None c = sym (ap (list_all (is_waiting c.args.window c.args.lines)) (none-listed c.args.groups.now (sym c.in-None.ensures.entry)))
